use Rattle.std.proofs.Common.{rules, ◌∙◌}
use Rattle.std.proofs.lemmas.Fn.{always_returns_same}
use Rattle.octets.specs.Texts.{text_cmp}
use Rattle.key_matching.proofs.Listed.{found_by_halves, sorted}
use Rattle.key_matching.proofs.prepared.is_one_of.Goals as goal

-- A bisection of what ascends finds what is there.
pub returns : goal.returns
returns c = c.is_ok.ensures.value ∙ found_by_halves (λ m. m) c.args.members.now c.args.value.now
    c.binary_search_by.result (sorted c.args.members.now c.requires) c.binary_search_by.ensures.bound (c.binary_search_by.ensures.position (λ m. text_cmp m c.args.value.now)
    (always_returns_same _ _ _ (λ a v f k. search rules)))
