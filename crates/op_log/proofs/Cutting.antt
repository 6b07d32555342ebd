-- One text of a head.
use Rattle.std.proofs.Common.{◌≡◌, ◌+◌, ◌<◌, ◌≤◌, ◌^◌, ℕ, List, [], ◌∷◌, ◌++◌, length, refl, sym, ◌∙◌, ap, arith}
use Rattle.std.specs.Int.{w64, to_le_bytes, from_le_bytes}
use Rattle.std.proofs.lemmas.Nat.{from_le_bytes-to_le_bytes_8}
use Rattle.std.proofs.lemmas.List.{append_assoc, length-append}
use Rattle.op_log.specs.Heads.{Head, IsSpelled, head_text, number_text}

-- texts whose fronts are as long have the same fronts, and the same behind them
pub apart : {X : Type 0} (xs ys r s : List X) → length xs ≡ length ys → xs ++ r ≡ ys ++ s → (xs ≡ ys) × (r ≡ s)
apart [] [] r s many is = (refl, is)
apart [] (y ∷ ys) r s many is = absurd (omega (arith, many))
apart (x ∷ xs) [] r s many is = absurd (omega (arith, many))
apart {X} (x ∷ xs) (y ∷ ys) r s many is =
    let first : x ≡ y = cc in
    let rest : xs ++ r ≡ ys ++ s = cc in
    let both = apart xs ys r s (omega (arith, many)) rest in
    (ap (λ (z : X). z ∷ xs) first ∙ ap (λ (zs : List X). y ∷ zs) both.0, both.1)

-- a number takes eight bytes
pub eight : (n : ℕ) → length (number_text n) ≡ 8
unfolding number_text
eight n = refl

-- and is read again
pub one_number : (a b : ℕ) (r s : List ℕ) → a < 2 ^ 64 → b < 2 ^ 64 → number_text a ++ r ≡ number_text b ++ s
    → (a ≡ b) × (r ≡ s)
unfolding number_text
one_number a b r s low low' is =
    let both = apart (to_le_bytes w64 a) (to_le_bytes w64 b) r s refl is in
    (sym (from_le_bytes-to_le_bytes_8 a low) ∙ ap (from_le_bytes w64) both.0 ∙ from_le_bytes-to_le_bytes_8 b low', both.1)

-- what stands behind the numbers of a head
abbrev pub after_size : Head → List ℕ → List ℕ
after_size h rest = h.digest ++ (h.front ++ rest)

abbrev pub after_at : Head → List ℕ → List ℕ
after_at h rest = number_text h.size ++ after_size h rest

abbrev pub after_long : Head → List ℕ → List ℕ
after_long h rest = number_text h.at ++ after_at h rest

-- a head and what stands behind it, part by part
pub in_parts : (h : Head) (rest : List ℕ) → head_text h ++ rest ≡ number_text (length h.front) ++ after_long h rest
unfolding head_text
in_parts h rest = simp append_assoc

-- how much stands where
pub sizes : (h : Head) (rest : List ℕ) → IsSpelled h
    → (length (after_size h rest) ≡ 32 + length h.front + length rest) × (8 ≤ length (after_at h rest)) × (8 ≤ length (after_long h rest))
sizes h rest it =
    let d = length-append h.digest (h.front ++ rest) in
    let f = length-append h.front rest in
    let s = length-append (number_text h.size) (after_size h rest) in
    let a = length-append (number_text h.at) (after_at h rest) in
    (omega (arith, d, f, it.digest), omega (arith, s, eight h.size), omega (arith, a, eight h.at))

-- two texts of heads are one
pub one_head : (h k : Head) (r s : List ℕ) → IsSpelled h → IsSpelled k → head_text h ++ r ≡ head_text k ++ s
    → (h ≡ k) × (r ≡ s)
one_head h k r s it other is =
    let whole = sym (in_parts h r) ∙ is ∙ in_parts k s in
    let long = one_number (length h.front) (length k.front) _ _ it.front other.front whole in
    let at = one_number h.at k.at _ _ it.at other.at long.1 in
    let size = one_number h.size k.size _ _ it.size other.size at.1 in
    let digest = apart h.digest k.digest _ _ (it.digest ∙ sym other.digest) size.1 in
    let front = apart h.front k.front r s long.0 digest.1 in
    (λ i. record { digest = digest.0 i; front = front.0 i; at = at.0 i; size = size.0 i }, front.1)

-- a head takes so many bytes
pub head_long : (h : Head) → IsSpelled h → length (head_text h) ≡ length h.front + 56
unfolding head_text
head_long h it =
    let a = length-append (number_text (length h.front)) (number_text h.at ++ (number_text h.size ++ (h.digest ++ h.front))) in
    let b = length-append (number_text h.at) (number_text h.size ++ (h.digest ++ h.front)) in
    let c = length-append (number_text h.size) (h.digest ++ h.front) in
    let d = length-append h.digest h.front in
    omega (arith, a, b, c, d, eight (length h.front), eight h.at, eight h.size, it.digest)
