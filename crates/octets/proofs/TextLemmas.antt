-- Texts that ascend, each once, are told by what they hold.
use Rattle.std.proofs.Common.{◌≡◌, ℕ, zero, suc, ◌<◌, List, [], ◌∷◌, length, get_or, true, refl, sym}
use Rattle.std.proofs.Common.{ap, subst, ◌∙◌, ◌⊎◌, inl, inr, arith}
use Rattle.std.specs.Prelude.{Contains, nat_eq}
use Rattle.std.specs.declared.cmp.Ordering.{Ordering}
use Rattle.std.specs.declared.cmp.Ordering.TheVariants.{Less, Equal, Greater}
use Rattle.std.specs.Ordering.{nat_cmp, match_ordering, ordering_reverse, is_eq}
use Rattle.std.specs.Cmp.Lexicographic.{slice_cmp, pointwise, texts_ties}
use Rattle.std.specs.FinMap.{nat_cmp-IsAntisymmetric, slice_cmp-IsAntisymmetric}
use Rattle.std.specs.List.Sorted.{IsStrictlySortedBy}
use Rattle.std.specs.List.{AllByRecursion}
use Rattle.std.proofs.lemmas.Cmp.{nat_list_cmp_total, tied_itself}
use Rattle.octets.specs.Members.{Has}
use Rattle.octets.specs.Texts.{put, ascending}

abbrev order : List ℕ → List ℕ → Ordering
order = slice_cmp nat_cmp

-- one of them is x
abbrev pub In : List ℕ → List (List ℕ) → Type 0
In x xs = Has xs x

-- each is above x
abbrev pub Above : List ℕ → List (List ℕ) → Type 0
Above x [] = Unit {0}
Above x (y ∷ ys) = (order x y ≡ Less) × Above x ys

-- each is below the later ones
abbrev pub Ascends : List (List ℕ) → Type 0
Ascends [] = Unit {0}
Ascends (x ∷ xs) = Above x xs × Ascends xs

same_text : (x y : List ℕ) → order x y ≡ Equal → x ≡ y
same_text x y e = slice_cmp-IsAntisymmetric nat_cmp-IsAntisymmetric x y e

-- nothing is below itself
irreflexive : (x : List ℕ) → order x x ≡ Less → ⊥
irreflexive x e = apart (sym e ∙ tied_itself nat_list_cmp_total x)
  where
    apart : Less ≡ Equal → ⊥
    apart e = cc

above_in : (x y : List ℕ) (ys : List (List ℕ)) → Above x ys → In y ys → order x y ≡ Less
above_in x y [] above there = absurd there
above_in x y (z ∷ ys) above (inl e) = subst (λ (w : List ℕ). order x w ≡ Less) (sym e) above.0
above_in x y (z ∷ ys) above (inr there) = above_in x y ys above.1 there

above_lower : (x y : List ℕ) (ys : List (List ℕ)) → order x y ≡ Less → Above y ys → Above x ys
above_lower x y [] lt above = tt
above_lower x y (z ∷ ys) lt above = (nat_list_cmp_total.trans x y z lt above.0, above_lower x y ys lt above.1)

reversed : (x y : List ℕ) → order x y ≡ Greater → order y x ≡ Less
reversed x y e = nat_list_cmp_total.antisymm y x ∙ ap ordering_reverse e

-- ---- what `put` holds, and that it ascends

above_put : (y x : List ℕ) (xs : List (List ℕ)) → order y x ≡ Less → Above y xs → Above y (put x xs)
above_put y x [] lt above = (lt, tt)
above_put y x (z ∷ xs) lt above =
    elim (order x z) as (λ o. Above y (match_ordering o (x ∷ z ∷ xs) (z ∷ xs) (z ∷ put x xs))) [
      | Less ↦ (lt, above)
      | Equal ↦ above
      | Greater ↦ (above.0, above_put y x xs lt above.1)
    ]

ascends_put : (x : List ℕ) (xs : List (List ℕ)) → Ascends xs → Ascends (put x xs)
ascends_put x [] up = (tt, tt)
ascends_put x (z ∷ xs) up =
    elim (order x z) as (λ o. order x z ≡ o → Ascends (match_ordering o (x ∷ z ∷ xs) (z ∷ xs) (z ∷ put x xs))) [
      | Less ↦ λ e. ((e, above_lower x z xs e up.0), up)
      | Equal ↦ λ e. up
      | Greater ↦ λ e. (above_put z x xs (reversed x z e) up.0, ascends_put x xs up.1)
    ] refl

in_put : (q x : List ℕ) (xs : List (List ℕ)) → (q ≡ x) ⊎ In q xs → In q (put x xs)
in_put q x [] there = there
in_put q x (z ∷ xs) there =
    elim (order x z) as (λ o. order x z ≡ o → In q (match_ordering o (x ∷ z ∷ xs) (z ∷ xs) (z ∷ put x xs))) [
      | Less ↦ λ e. there
      | Equal ↦ λ e. tied (same_text x z e) there
      | Greater ↦ λ e. further (in_put q x xs) there
    ] refl
  where
    tied : x ≡ z → (q ≡ x) ⊎ In q (z ∷ xs) → In q (z ∷ xs)
    tied same (inl e) = inl (e ∙ same)
    tied same (inr there) = there

    further : ((q ≡ x) ⊎ In q xs → In q (put x xs)) → (q ≡ x) ⊎ In q (z ∷ xs) → In q (z ∷ put x xs)
    further more (inl e) = inr (more (inl e))
    further more (inr (inl e)) = inl e
    further more (inr (inr there)) = inr (more (inr there))

put_holds : (q x : List ℕ) (xs : List (List ℕ)) → In q (put x xs) → (q ≡ x) ⊎ In q xs
put_holds q x [] there = there
put_holds q x (z ∷ xs) there =
    elim (order x z) as (λ o. In q (match_ordering o (x ∷ z ∷ xs) (z ∷ xs) (z ∷ put x xs)) → (q ≡ x) ⊎ In q (z ∷ xs)) [
      | Less ↦ λ there. there
      | Equal ↦ λ there. inr there
      | Greater ↦ λ there. further (put_holds q x xs) there
    ] there
  where
    deeper : (q ≡ x) ⊎ In q xs → (q ≡ x) ⊎ In q (z ∷ xs)
    deeper (inl e) = inl e
    deeper (inr there) = inr (inr there)

    further : (In q (put x xs) → (q ≡ x) ⊎ In q xs) → In q (z ∷ put x xs) → (q ≡ x) ⊎ In q (z ∷ xs)
    further less (inl e) = inr (inl e)
    further less (inr there) = deeper (less there)

pub ascends : (xs : List (List ℕ)) → Ascends (ascending xs)
ascends [] = tt
ascends (x ∷ xs) = ascends_put x (ascending xs) (ascends xs)

pub in_ascending : (q : List ℕ) (xs : List (List ℕ)) → In q xs → In q (ascending xs)
in_ascending q (x ∷ xs) (inl e) = in_put q x (ascending xs) (inl e)
in_ascending q (x ∷ xs) (inr there) = in_put q x (ascending xs) (inr (in_ascending q xs there))
in_ascending q [] there = absurd there

pub ascending_holds : (q : List ℕ) (xs : List (List ℕ)) → In q (ascending xs) → In q xs
ascending_holds q [] there = there
ascending_holds q (x ∷ xs) there = first (ascending_holds q xs) (put_holds q x (ascending xs) there)
  where
    first : (In q (ascending xs) → In q xs) → (q ≡ x) ⊎ In q (ascending xs) → In q (x ∷ xs)
    first less (inl e) = inl e
    first less (inr there) = inr (less there)

-- ---- two lists that ascend and hold the same are one

same_head : (x y : List ℕ) (xs ys : List (List ℕ)) → Above x xs → Above y ys → In x (y ∷ ys) → In y (x ∷ xs) → x ≡ y
same_head x y xs ys up down (inl e) back = e
same_head x y xs ys up down (inr there) (inl e) = sym e
same_head x y xs ys up down (inr there) (inr back) =
    absurd (irreflexive x (nat_list_cmp_total.trans x y x (above_in x y xs up back) (above_in y x ys down there)))

tail_holds : (q x : List ℕ) (xs ys : List (List ℕ)) → Above x xs → In q xs → In q (x ∷ ys) → In q ys
tail_holds q x xs ys up mine (inr there) = there
tail_holds q x xs ys up mine (inl e) = absurd
    (irreflexive x (subst (λ (w : List ℕ). order x w ≡ Less) e (above_in x q xs up mine)))

pub same_ascending : (xs ys : List (List ℕ)) → Ascends xs → Ascends ys → ((q : List ℕ) → In q xs → In q ys)
    → ((q : List ℕ) → In q ys → In q xs) → xs ≡ ys
same_ascending [] [] up down here there = refl
same_ascending [] (y ∷ ys) up down here there = absurd (there y (inl refl))
same_ascending (x ∷ xs) [] up down here there = absurd (here x (inl refl))
same_ascending (x ∷ xs) (y ∷ ys) up down here there =
    let e : x ≡ y = same_head x y xs ys up.0 down.0 (here x (inl refl)) (there y (inl refl)) in
    let forth : (q : List ℕ) → In q xs → In q ys =
    λ q mine. tail_holds q x xs ys up.0 mine (subst (λ (w : List ℕ). In q (w ∷ ys)) (sym e) (here q (inr mine)))
    in
    let back : (q : List ℕ) → In q ys → In q xs =
    λ q mine. tail_holds q y ys xs down.0 mine (subst (λ (w : List ℕ). In q (w ∷ xs)) e (there q (inr mine)))
    in
    let rest : xs ≡ ys = same_ascending xs ys up.1 down.1 forth back in
    cc

-- ---- in std's words

pub tied_texts : (x y : List ℕ) → pointwise nat_eq x y ≡ true → x ≡ y
tied_texts x y e = same_text x y (is_equal (order x y) (sym (texts_ties x y) ∙ e))
  where
    is_equal : (o : Ordering) → is_eq o ≡ true → o ≡ Equal
    is_equal Less e = absurd cc
    is_equal Equal e = refl
    is_equal Greater e = absurd cc

pub in_from_contains : (x : List ℕ) (xs : List (List ℕ)) (k : ℕ) → k < length xs → get_or xs k x ≡ x → In x xs
in_from_contains x [] k lt e = absurd (omega arith)
in_from_contains x (y ∷ xs) zero lt e = inl (sym e)
in_from_contains x (y ∷ xs) (suc k) lt e = inr (in_from_contains x xs k (omega arith) e)

pub contains_from_in : (x : List ℕ) (xs : List (List ℕ)) → In x xs → Contains xs x
contains_from_in x [] there = absurd there
contains_from_in x (y ∷ xs) (inl e) = (zero, omega arith, sym e)
contains_from_in x (y ∷ xs) (inr there) = let p = contains_from_in x xs there in (suc p.0, omega (arith, p.1), p.2)

pub above_from_all : (x : List ℕ) (xs : List (List ℕ)) → AllByRecursion (λ y. order x y ≡ Less) xs → Above x xs
above_from_all x [] all = tt
above_from_all x (y ∷ xs) all = (all.0, above_from_all x xs all.1)

pub ascends_from_sorted : (xs : List (List ℕ)) → IsStrictlySortedBy (slice_cmp nat_cmp) xs → Ascends xs
unfolding IsStrictlySortedBy
ascends_from_sorted [] up = tt
ascends_from_sorted (x ∷ xs) up = (above_from_all x xs up.0, ascends_from_sorted xs up.1)

all_from_above : (x : List ℕ) (xs : List (List ℕ)) → Above x xs → AllByRecursion (λ y. order x y ≡ Less) xs
all_from_above x [] above = tt
all_from_above x (y ∷ xs) above = (above.0, all_from_above x xs above.1)

pub sorted_from_ascends : (xs : List (List ℕ)) → Ascends xs → IsStrictlySortedBy (slice_cmp nat_cmp) xs
unfolding IsStrictlySortedBy
sorted_from_ascends [] up = tt
sorted_from_ascends (x ∷ xs) up = (all_from_above x xs up.0, sorted_from_ascends xs up.1)

pub ascending_sorted : (xs : List (List ℕ)) → IsStrictlySortedBy (slice_cmp nat_cmp) (ascending xs)
ascending_sorted xs = sorted_from_ascends (ascending xs) (ascends xs)
