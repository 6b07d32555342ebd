-- Orders of std's types that tell all values apart.
use Rattle.std.specs.Prelude.{◌≡◌, [], ◌∷◌}
use Rattle.std.proofs.Common.{refl}
use Rattle.std.specs.Ordering.{nat_cmp, ordering_then}
use Rattle.std.specs.Cmp.Lexicographic.{slice_cmp}
use Rattle.std.specs.declared.cmp.Ordering.{Ordering}
use Rattle.std.specs.declared.cmp.Ordering.TheVariants.{Less, Equal, Greater}
use Rattle.std.proofs.lemmas.Map.Lookups as std
use Rattle.join_laws.specs.Laws.{IsExact}

pub exact_unsigned : IsExact nat_cmp
exact_unsigned = std.exact_unsigned

pub exact_both : {A B : Type 0} (P : A → A → Ordering) (Q : B → B → Ordering) → IsExact P → IsExact Q
    → IsExact (λ (x y : A × B). ordering_then (P x.0 y.0) (Q x.1 y.1))
exact_both = std.exact_pairs

first_equal : (a b : Ordering) → ordering_then a b ≡ Equal → a ≡ Equal
first_equal Less b h = h
first_equal Equal b h = refl
first_equal Greater b h = h

then_equal : (a b : Ordering) → ordering_then a b ≡ Equal → b ≡ Equal
then_equal Less b h = cc
then_equal Equal b h = h
then_equal Greater b h = cc

pub exact_lists : {T : Type 0} (cmp : T → T → Ordering) → IsExact cmp → IsExact (slice_cmp cmp)
exact_lists cmp exact [] [] h = refl
exact_lists cmp exact [] (y ∷ ys) h = cc
exact_lists cmp exact (x ∷ xs) [] h = cc
exact_lists cmp exact (x ∷ xs) (y ∷ ys) h =
    let first : x ≡ y = exact x y (first_equal (cmp x y) (slice_cmp cmp xs ys) h) in
    let rest : xs ≡ ys = exact_lists cmp exact xs ys (then_equal (cmp x y) (slice_cmp cmp xs ys) h) in
    λ i. first i ∷ rest i
