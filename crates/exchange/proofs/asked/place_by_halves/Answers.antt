use Rattle.std.proofs.Common.{◌∙◌, List, ℕ, subst}
use Rattle.std.specs.List.Sorted.{IsBinarySearchResult}
use Rattle.octets.specs.Texts.{text_cmp}
use Rattle.exchange.proofs.Askings.{halved}
use Rattle.exchange.proofs.asked.place_by_halves.Goals as goal

-- A search by halves of what ascends finds what is there.
pub returns : goal.returns
returns c =
    let arrays = c.args.arrays.now in
    c.ok.ensures.value
    ∙ halved arrays c.args.digest.now c.binary_search.result c.requires c.binary_search.ensures.bound
    (subst (λ (x : List ℕ). IsBinarySearchResult (λ y. text_cmp y x) arrays c.binary_search.result) c.as_bytes.ensures
    c.binary_search.ensures.position)
