-- A key is in a union exactly where one of the two sets has it.
use Rattle.std.specs.Prelude.{◌≡◌, ◌↔◌, ◌⊎◌, Bool, true, ◌||◌, List, Contains}
use Rattle.std.proofs.Common.{sym, ◌∙◌, inl, inr}
use Rattle.std.specs.Cmp.{IsTotalOrder}
use Rattle.std.specs.List.{list_any}
use Rattle.std.specs.declared.cmp.Ordering.{Ordering}
use Rattle.std.specs.BTreeMap.{is_at}
use Rattle.std.specs.BTreeSet.{BTreeSet}
use Rattle.std.proofs.lemmas.Map.Views.{btree_set_contains_iff}
use Rattle.std.proofs.lemmas.Bool.{or_left as or_first, or_right as or_second, or_cases as one_or_other}
use Rattle.join_laws.specs.Laws.{IsExact}
use Rattle.join_laws.specs.GrowSet.{union_of}
use Rattle.join_laws.specs.Proved.Sets.{has-union}

module _ {K : Type 0} {R : K → K → Ordering} (o : IsTotalOrder R) (exact : IsExact R) (key : K) where
  contains : (ks : List K) → (list_any (is_at (R key)) ks ≡ true) ↔ Contains ks key
  contains ks = let set : BTreeSet K = record { keys = ks } in btree_set_contains_iff o exact set key

  abbrev has : List K → Bool
  has ks = list_any (is_at (R key)) ks

  pub contains-union : (xs ys : List K) → Contains (union_of R xs ys) key ↔ (Contains xs key ⊎ Contains ys key)
  contains-union xs ys = (there, back)
    where
      there : Contains (union_of R xs ys) key → Contains xs key ⊎ Contains ys key
      there h = elim (one_or_other (has xs) (has ys) (sym (has-union o exact key ys xs)
          ∙ (contains (union_of R xs ys)).1 h)) [
            | inl first ↦ inl ((contains xs).0 first)
            | inr second ↦ inr ((contains ys).0 second)
          ]

      back : Contains xs key ⊎ Contains ys key → Contains (union_of R xs ys) key
      back h =
          (contains (union_of R xs ys)).0 (has-union o exact key ys xs ∙ elim h as (λ _. (has xs || has ys) ≡ true) [
            | inl first ↦ or_first (has xs) (has ys) ((contains xs).1 first)
            | inr second ↦ or_second (has xs) (has ys) ((contains ys).1 second)
          ])
