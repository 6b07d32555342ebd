-- The order of texts of hexadecimal digits is that of the bytes.
use Rattle.std.proofs.Common.{◌≡◌, ◌⊎◌, inl, inr, ℕ, ◌+◌, ◌<◌, ◌≤◌, ◌/◌, ◌%◌, zero, suc, List, [], ◌∷◌, get_or, refl}
use Rattle.std.proofs.Common.{sym, ap, ap₂, ◌∙◌, arith, Less, Equal, Greater}
use Rattle.std.specs.Ordering.{nat_cmp, ordering_then}
use Rattle.std.specs.declared.cmp.Ordering.{Ordering}
use Rattle.std.specs.Cmp.Lexicographic.{slice_cmp}
use Rattle.std.proofs.lemmas.Cmp.{ranked}
use Rattle.std.specs.Prelude.{slice_index}
use Rattle.hex.specs.Hex.{lower_digits, encode_lower, encode_with}

abbrev digit : ℕ → ℕ
digit n = slice_index lower_digits n

-- a digit of a number is a decimal one, or a letter
Spells : ℕ → Type 0
Spells n = ((n < 10) × (digit n ≡ n + 48)) ⊎ ((10 ≤ n) × (digit n ≡ n + 87))

spelled : (n : ℕ) → n < 16 → Spells n
unfolding Spells
spelled zero low = inl (omega arith, refl)
spelled (suc zero) low = inl (omega arith, refl)
spelled (suc (suc zero)) low = inl (omega arith, refl)
spelled (suc (suc (suc zero))) low = inl (omega arith, refl)
spelled (suc (suc (suc (suc zero)))) low = inl (omega arith, refl)
spelled (suc (suc (suc (suc (suc zero))))) low = inl (omega arith, refl)
spelled (suc (suc (suc (suc (suc (suc zero)))))) low = inl (omega arith, refl)
spelled (suc (suc (suc (suc (suc (suc (suc zero))))))) low = inl (omega arith, refl)
spelled (suc (suc (suc (suc (suc (suc (suc (suc zero)))))))) low = inl (omega arith, refl)
spelled (suc (suc (suc (suc (suc (suc (suc (suc (suc zero))))))))) low = inl (omega arith, refl)
spelled (suc (suc (suc (suc (suc (suc (suc (suc (suc (suc zero)))))))))) low = inr (omega arith, refl)
spelled (suc (suc (suc (suc (suc (suc (suc (suc (suc (suc (suc zero))))))))))) low = inr (omega arith, refl)
spelled (suc (suc (suc (suc (suc (suc (suc (suc (suc (suc (suc (suc zero)))))))))))) low = inr (omega arith, refl)
spelled (suc (suc (suc (suc (suc (suc (suc (suc (suc (suc (suc (suc (suc zero))))))))))))) low = inr (omega arith, refl)
spelled (suc (suc (suc (suc (suc (suc (suc (suc (suc (suc (suc (suc (suc (suc zero)))))))))))))) low =
    inr (omega arith, refl)
spelled (suc (suc (suc (suc (suc (suc (suc (suc (suc (suc (suc (suc (suc (suc (suc zero))))))))))))))) low =
    inr (omega arith, refl)
spelled (suc (suc (suc (suc (suc (suc (suc (suc (suc (suc (suc (suc (suc (suc (suc (suc n)))))))))))))))) low =
    absurd (omega (arith, low))

rises : (m n : ℕ) → Spells m → Spells n → m < n → digit m < digit n
unfolding Spells
rises m n (inl a) (inl b) low = omega (arith, a.1, b.1, low)
rises m n (inl a) (inr b) low = omega (arith, a.0, a.1, b.0, b.1, low)
rises m n (inr a) (inl b) low = absurd (omega (arith, a.0, b.0, low))
rises m n (inr a) (inr b) low = omega (arith, a.1, b.1, low)

less : (x y : ℕ) → x < y → nat_cmp x y ≡ Less
less x y low = step (nat_cmp x y) refl
  where
    step : (r : Ordering) → r ≡ nat_cmp x y → r ≡ Less
    step Less is = refl
    step Equal is = absurd (omega (arith, low, ranked x y Equal is))
    step Greater is = absurd (omega (arith, low, ranked x y Greater is))

equal : (x y : ℕ) → x ≡ y → nat_cmp x y ≡ Equal
equal x y same = step (nat_cmp x y) refl
  where
    step : (r : Ordering) → r ≡ nat_cmp x y → r ≡ Equal
    step Less is = absurd (omega (arith, same, ranked x y Less is))
    step Equal is = refl
    step Greater is = absurd (omega (arith, same, ranked x y Greater is))

greater : (x y : ℕ) → y < x → nat_cmp x y ≡ Greater
greater x y low = step (nat_cmp x y) refl
  where
    step : (r : Ordering) → r ≡ nat_cmp x y → r ≡ Greater
    step Less is = absurd (omega (arith, low, ranked x y Less is))
    step Equal is = absurd (omega (arith, low, ranked x y Equal is))
    step Greater is = refl

-- two pairs that are in one order
alike : (x y u v : ℕ) → (x < y → u < v) → (x ≡ y → u ≡ v) → (y < x → v < u) → nat_cmp x y ≡ nat_cmp u v
alike x y u v up same down = step (nat_cmp x y) refl
  where
    step : (r : Ordering) → r ≡ nat_cmp x y → r ≡ nat_cmp u v
    step Less is = sym (less u v (up (ranked x y Less is)))
    step Equal is = sym (equal u v (same (ranked x y Equal is)))
    step Greater is = sym (greater u v (down (ranked x y Greater is)))

of_digits : (m n : ℕ) → m < 16 → n < 16 → nat_cmp m n ≡ nat_cmp (digit m) (digit n)
of_digits m n low high =
    alike m n (digit m) (digit n) (rises m n (spelled m low) (spelled n high)) (λ same. ap digit same)
    (rises n m (spelled n high) (spelled m low))

-- a byte is its two halves
of_halves : (x y : ℕ) → nat_cmp x y ≡ ordering_then (nat_cmp (x / 16) (y / 16)) (nat_cmp (x % 16) (y % 16))
of_halves x y = step (nat_cmp (x / 16) (y / 16)) refl
  where
    step : (r : Ordering) → r ≡ nat_cmp (x / 16) (y / 16) → nat_cmp x y ≡ ordering_then r (nat_cmp (x % 16) (y % 16))
    step Less is = less x y (omega (arith, ranked (x / 16) (y / 16) Less is))
    step Equal is =
        let same : x / 16 ≡ y / 16 = ranked (x / 16) (y / 16) Equal is in
        alike x y (x % 16) (y % 16) (λ low. omega (arith, same, low)) (λ is. ap (λ n. n % 16) is)
        (λ low. omega (arith, same, low))
    step Greater is = greater x y (omega (arith, ranked (x / 16) (y / 16) Greater is))

then_then : (a b c : Ordering) → ordering_then (ordering_then a b) c ≡ ordering_then a (ordering_then b c)
then_then Less b c = refl
then_then Equal b c = refl
then_then Greater b c = refl

-- the order of bytes is that of their digits
pub in_digits : (xs ys : List ℕ) → ((i : ℕ) → get_or xs i 0 < 256) → ((i : ℕ) → get_or ys i 0 < 256)
    → slice_cmp nat_cmp xs ys ≡ slice_cmp nat_cmp (encode_lower xs) (encode_lower ys)
unfolding encode_with
in_digits [] [] p q = refl
in_digits [] (y ∷ ys) p q = refl
in_digits (x ∷ xs) [] p q = refl
in_digits (x ∷ xs) (y ∷ ys) p q =
    let a : nat_cmp (x / 16) (y / 16) ≡ nat_cmp (digit (x / 16)) (digit (y / 16)) =
    of_digits (x / 16) (y / 16) (omega (arith, p 0)) (omega (arith, q 0)) in
    let b : nat_cmp (x % 16) (y % 16) ≡ nat_cmp (digit (x % 16)) (digit (y % 16)) =
    of_digits (x % 16) (y % 16) (omega arith) (omega arith) in
    let here = of_halves x y ∙ ap₂ ordering_then a b in
    ap₂ ordering_then here (in_digits xs ys (λ i. p (suc i)) (λ i. q (suc i)))
    ∙ then_then (nat_cmp (digit (x / 16)) (digit (y / 16))) (nat_cmp (digit (x % 16)) (digit (y % 16)))
    (slice_cmp nat_cmp (encode_lower xs) (encode_lower ys))
