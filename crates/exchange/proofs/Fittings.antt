-- What a HAVE has of digests that are more than it may have.
use Rattle.std.proofs.Common.{inl, inr, ◌≡◌, ◌≤◌, ℕ, zero, suc, List, [], ◌∷◌, Bool, true, false, cond, length, take}
use Rattle.std.proofs.Common.{arith, refl, sym, subst}
use Rattle.std.specs.Prelude.{◌==◌, filter, not, nat_lt}
use Rattle.std.specs.List.{AllByRecursion}
use Rattle.std.specs.List.Sorted.{IsStrictlySortedBy}
use Rattle.std.specs.declared.cmp.Ordering.{Ordering}
use Rattle.std.specs.declared.cmp.Ordering.TheVariants.{Less}
use Rattle.std.proofs.lemmas.List.Kept.{IsStrictlySortedBy-filter}
use Rattle.std.proofs.lemmas.List.Sums.{length-filter, count_by-le-length}
use Rattle.octets.specs.Members.{Has}
use Rattle.octets.specs.Texts.{text_cmp}
use Rattle.archive_model.proofs.MemberLaws.{filter_has}
use Rattle.exchange.specs.Held.{place_of}
use Rattle.exchange.specs.Parts.{fitting, place_behind, whole_places}

-- ---- the first of some

pub taken_from : {X : Type 0} (n : ℕ) (xs : List X) (x : X) → Has (take n xs) x → Has xs x
taken_from zero xs x h = absurd h
taken_from (suc n) [] x h = absurd h
taken_from (suc n) (y ∷ xs) x (inl e) = inl e
taken_from (suc n) (y ∷ xs) x (inr h) = inr (taken_from n xs x h)

taken_few : {X : Type 0} (n : ℕ) (xs : List X) → length (take n xs) ≤ n
taken_few zero xs = omega arith
taken_few (suc n) [] = omega arith
taken_few (suc n) (x ∷ xs) = omega (arith, taken_few n xs)

all_taken : {X : Type 0} (P : X → Type 0) (n : ℕ) (xs : List X) → AllByRecursion P xs → AllByRecursion P (take n xs)
all_taken P zero xs all = tt
all_taken P (suc n) [] all = tt
all_taken P (suc n) (x ∷ xs) all = (all.0, all_taken P n xs all.1)

taken_sorted : {X : Type 0} (cmp : X → X → Ordering) (n : ℕ) (xs : List X) → IsStrictlySortedBy cmp xs
    → IsStrictlySortedBy cmp (take n xs)
unfolding IsStrictlySortedBy
taken_sorted cmp zero xs sorted = tt
taken_sorted cmp (suc n) [] sorted = tt
taken_sorted cmp (suc n) (x ∷ xs) sorted =
    (all_taken (λ y. cmp x y ≡ Less) n xs sorted.0, taken_sorted cmp n xs sorted.1)

pub kept_few : {X : Type 0} (p : X → Bool) (xs : List X) → length (filter p xs) ≤ length xs
kept_few p xs = subst (λ (n : ℕ). n ≤ length xs) (sym (length-filter p xs)) (count_by-le-length p xs)

-- ---- what fits

-- It is all, or the first, or those of whole places.
pub of_fitting : (P : List (List ℕ) → Type 0) (most : ℕ) (digests : List (List ℕ))
    → (nat_lt most (length digests) ≡ false → P digests) → P (take most digests) → P (whole_places most digests)
    → P (fitting most digests)
unfolding fitting
of_fitting P most digests all front whole =
    by (nat_lt most (length digests)) refl (length (whole_places most digests) == 0)
  where
    by : (a : Bool) → nat_lt most (length digests) ≡ a → (b : Bool)
        → P (cond a (cond b (take most digests) (whole_places most digests)) digests)
    by true e true = front
    by true e false = whole
    by false e b = all e

pub not_more : (a b : ℕ) → nat_lt a b ≡ false → b ≤ a
not_more a b e = grind arith

-- It is not more than may be told, comes of what is held, and ascends as that does.
pub fitting_few : (most : ℕ) (digests : List (List ℕ)) → length (fitting most digests) ≤ most
fitting_few most digests = of_fitting (λ ds. length ds ≤ most) most digests (not_more most (length digests))
    (taken_few most digests)
    (omega (
      arith,
      taken_few most digests,
      kept_few (λ d. not (place_of d == place_behind most digests)) (take most digests),
    ))

pub fitting_from : (most : ℕ) (digests : List (List ℕ)) (d : List ℕ) → Has (fitting most digests) d → Has digests d
fitting_from most digests d = of_fitting (λ ds. Has ds d → Has digests d) most digests (λ e h. h)
    (taken_from most digests d)
    (λ h. taken_from most digests d
    (filter_has (λ x. not (place_of x == place_behind most digests)) (take most digests) d h).0)

pub fitting_sorted : (most : ℕ) (digests : List (List ℕ)) → IsStrictlySortedBy text_cmp digests
    → IsStrictlySortedBy text_cmp (fitting most digests)
fitting_sorted most digests sorted = of_fitting (IsStrictlySortedBy text_cmp) most digests (λ e. sorted)
    (taken_sorted text_cmp most digests sorted)
    (IsStrictlySortedBy-filter text_cmp (λ d. not (place_of d == place_behind most digests)) (take most digests)
    (taken_sorted text_cmp most digests sorted))
