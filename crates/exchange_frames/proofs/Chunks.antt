-- Digests that stand in one text.
use Rattle.std.proofs.Common.{◌≡◌, ℕ, zero, suc, ◌+◌, ◌*◌, ◌/◌, ◌≤◌, List, [], ◌∷◌, ◌++◌, length, take, drop}
use Rattle.std.proofs.Common.{refl, sym, ap}
use Rattle.std.proofs.Common.{◌∙◌, arith}
use Rattle.std.specs.Simd.{first_chunks}
use Rattle.std.proofs.lemmas.List.{take-append-le, drop-append-le, length-append, length-drop, nil_from_length, take_at}
use Rattle.std.proofs.lemmas.List.{append-nil}
use Rattle.exchange_frames.specs.Digests.{IsWhole, digests_in}
use Rattle.exchange_frames.specs.Reading.{cut}
use Rattle.exchange_frames.specs.Spelling.{digests_text, AreDigests}
use Rattle.exchange_frames.proofs.Lists.{cut_again, cut_length, cut_text}

chunks_cut : (n : ℕ) (text : List ℕ) → first_chunks 32 n text ≡ cut n text
unfolding cut
chunks_cut zero text = refl
chunks_cut (suc n) text = ap (λ (ds : List (List ℕ)). take 32 text ∷ ds) (chunks_cut n (drop 32 text))

-- a text of so many digests has those that are cut off it
pub cut_in : (n : ℕ) (text : List ℕ) → length text ≡ 32 * n → digests_in text ≡ cut n text
cut_in n text long =
    let count : length text / 32 ≡ n = omega (arith, long) in
    ap (λ (k : ℕ). first_chunks 32 k text) count ∙ chunks_cut n text

-- the digests of a whole text are the text
pub text_in : (text : List ℕ) → IsWhole text → digests_text (digests_in text) ≡ text
text_in text whole =
    ap digests_text (cut_in (length text / 32) text whole) ∙ cut_text (length text / 32) text whole

pub long_in : (text : List ℕ) → IsWhole text → length text ≡ 32 * length (digests_in text)
long_in text whole =
    let many = ap length (cut_in (length text / 32) text whole) ∙ cut_length (length text / 32) text in
    omega (arith, whole, many)

chunks_more : (n : ℕ) (text d : List ℕ) → length text ≡ 32 * n → length d ≡ 32
    → first_chunks 32 (suc n) (text ++ d) ≡ first_chunks 32 n text ++ d ∷ []
chunks_more zero text d long is =
    let none : text ≡ [] = nil_from_length text (omega (arith, long)) in
    ap (λ (t : List ℕ). take 32 (t ++ d) ∷ []) none
    ∙ ap (λ (t : List ℕ). t ∷ []) (ap (take 32) (sym (append-nil d)) ∙ take_at d [] 32 is)
chunks_more (suc n) text d long is =
    let fits : 32 ≤ length text = omega (arith, long) in
    let rest : length (drop 32 text) ≡ 32 * n = omega (arith, long, length-drop 32 text) in
    rw (take-append-le 32 text d fits, drop-append-le 32 text d fits)
    (ap (λ (ds : List (List ℕ)). take 32 text ∷ ds) (chunks_more n (drop 32 text) d rest is))

-- one digest more stands behind the others
pub one_more : (text d : List ℕ) → IsWhole text → length d ≡ 32 → digests_in (text ++ d) ≡ digests_in text ++ d ∷ []
one_more text d whole is =
    let count : length (text ++ d) / 32 ≡ suc (length text / 32) = omega (arith, length-append text d, whole, is) in
    ap (λ (k : ℕ). first_chunks 32 k (text ++ d)) count ∙ chunks_more (length text / 32) text d whole is

pub still_whole : (text d : List ℕ) → IsWhole text → length d ≡ 32 → IsWhole (text ++ d)
still_whole text d whole is = omega (arith, length-append text d, whole, is)

chunks_append : (n m : ℕ) (text more : List ℕ) → length text ≡ 32 * n
    → first_chunks 32 (n + m) (text ++ more) ≡ first_chunks 32 n text ++ first_chunks 32 m more
chunks_append zero m text more long =
    let none : text ≡ [] = nil_from_length text (omega (arith, long)) in
    let count : 0 + m ≡ m = omega arith in
    ap (λ (k : ℕ). first_chunks 32 k (text ++ more)) count ∙ ap (λ (t : List ℕ). first_chunks 32 m (t ++ more)) none
chunks_append (suc n) m text more long =
    let fits : 32 ≤ length text = omega (arith, long) in
    let rest : length (drop 32 text) ≡ 32 * n = omega (arith, long, length-drop 32 text) in
    let count : suc n + m ≡ suc (n + m) = omega arith in
    ap (λ (k : ℕ). first_chunks 32 k (text ++ more)) count
    ∙ rw (take-append-le 32 text more fits, drop-append-le 32 text more fits)
    (ap (λ (ds : List (List ℕ)). take 32 text ∷ ds) (chunks_append n m (drop 32 text) more rest))

-- whole texts, one behind the other, have the digests of both
pub both_in : (text more : List ℕ) → IsWhole text → IsWhole more
    → digests_in (text ++ more) ≡ digests_in text ++ digests_in more
both_in text more whole too =
    let count : length (text ++ more) / 32 ≡ length text / 32 + length more / 32
    = omega (arith, length-append text more, whole, too) in
    ap (λ (k : ℕ). first_chunks 32 k (text ++ more)) count
    ∙ chunks_append (length text / 32) (length more / 32) text more whole

-- a text of 32 bytes for each digest is theirs
pub in_text : (ds : List (List ℕ)) (text : List ℕ) → text ≡ digests_text ds → length text ≡ 32 * length ds
    → AreDigests ds → digests_in text ≡ ds
in_text ds text is long are =
    cut_in (length ds) text long ∙ ap (cut (length ds)) is ∙ cut_again ds are
