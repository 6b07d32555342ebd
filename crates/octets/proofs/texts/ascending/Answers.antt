use Rattle.std.proofs.Common.{ℕ, List, ◌∙◌}
use Rattle.std.specs.Prelude.{Contains, nat_eq}
use Rattle.std.specs.List.{dedup}
use Rattle.std.specs.Cmp.Lexicographic.{texts_ties, pointwise, nat_list_eq_equiv}
use Rattle.std.proofs.lemmas.Cmp.{nat_list_cmp_total}
use Rattle.std.proofs.lemmas.List.Filters.{dedup_is}
use Rattle.std.proofs.lemmas.List.Kept.{IsStrictlySortedBy-dedup, Contains-dedup, Contains-from_dedup}
use Rattle.std.proofs.lemmas.List.Sorted.{Contains-permutation, IsPermutation-sym}
use Rattle.octets.specs.Texts.{ascending}
use Rattle.octets.proofs.TextLemmas.{In, ascends, in_ascending, ascending_holds, same_ascending, in_from_contains}
use Rattle.octets.proofs.TextLemmas.{contains_from_in, ascends_from_sorted, tied_texts}
use Rattle.octets.proofs.texts.ascending.Goals as goal

-- What is sorted and deduplicated ascends and holds the same, and two such lists are one.
pub returns : goal.returns
returns c =
    let texts = c.args.texts.items in
    let kept = dedup (pointwise nat_eq) c.sort_unstable.new.self.items in
    let is = dedup_is _ _ _ c.dedup.ensures.filtered in
    let moved = c.sort_unstable.ensures.permutation in
    let forth : (q : List ℕ) → In q kept → In q (ascending texts) =
    λ q there. in_ascending q texts (to_in q texts (Contains-permutation _ _ q (IsPermutation-sym _ _ moved)
    (Contains-from_dedup _ _ q (contains_from_in q kept there))))
    in
    let back : (q : List ℕ) → In q (ascending texts) → In q kept =
    λ q there. to_in q kept (Contains-dedup nat_list_eq_equiv tied_texts _
    q (Contains-permutation _ _ q moved (contains_from_in q texts (ascending_holds q texts there))))
    in
    is ∙ same_ascending kept (ascending texts)
    (ascends_from_sorted kept (IsStrictlySortedBy-dedup nat_list_cmp_total texts_ties _
    c.sort_unstable.ensures.sorted)) (ascends texts) forth back
  where
    to_in : (q : List ℕ) (xs : List (List ℕ)) → Contains xs q → In q xs
    to_in q xs there = in_from_contains q xs there.0 there.1 there.2
