-- Entries whose keys ascend, and the last of them.
use Rattle.std.specs.Prelude.{◌≡◌, List, [], ◌∷◌, ◌++◌}
use Rattle.std.specs.List.{AllByRecursion}
use Rattle.std.specs.List.Sorted.{IsStrictlySortedBy}
use Rattle.std.specs.Map.{keys_of}
use Rattle.std.specs.declared.cmp.Ordering.{Ordering}
use Rattle.std.specs.declared.cmp.Ordering.TheVariants.{Less}

module _ {K J : Type 0} (R : K → K → Ordering) where
  -- what is below each of some is below the last
  pub below_last : (x : K) (rest : List (K × J)) (e : K × J)
      → AllByRecursion (λ (y : K). R x y ≡ Less) (keys_of (rest ++ e ∷ [])) → R x e.0 ≡ Less
  below_last x [] e all = all.0
  below_last x (f ∷ rest) e all = below_last x rest e all.1

  front_below : (x : K) (rest : List (K × J)) (e : K × J)
      → AllByRecursion (λ (y : K). R x y ≡ Less) (keys_of (rest ++ e ∷ []))
      → AllByRecursion (λ (y : K). R x y ≡ Less) (keys_of rest)
  front_below x [] e all = tt
  front_below x (f ∷ rest) e all = (all.0, front_below x rest e all.1)

  -- what ascends goes on to ascend without its last
  pub front_ascends : (rest : List (K × J)) (e : K × J)
      → IsStrictlySortedBy R (keys_of (rest ++ e ∷ [])) → IsStrictlySortedBy R (keys_of rest)
  unfolding IsStrictlySortedBy
  front_ascends [] e s = tt
  front_ascends (f ∷ rest) e s = (front_below f.0 rest e s.0, front_ascends rest e s.1)
