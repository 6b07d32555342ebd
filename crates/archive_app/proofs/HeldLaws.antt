-- The text that tells how many operations there have been is read as it was written.
use Rattle.std.proofs.Common.{◌≡◌, ◌≢◌, ℕ, zero, suc, ◌<◌, ◌^◌, List, [], ◌∷◌, ◌++◌, Option, Some, None}
use Rattle.std.proofs.Common.{length, get_or, arith, refl, sym, ap, subst, ◌∙◌, MatchOption, Bor, rules}
use Rattle.std.specs.Prelude.{IsUtf8}
use Rattle.std.specs.Fmt.{decimal}
use Rattle.std.specs.Char.{digit_value}
use Rattle.std.specs.Str.Parse.{AllDigits}
use Rattle.std.proofs.lemmas.Fmt.{IsAscii-decimal, decimal_is_IsNumeral}
use Rattle.std.proofs.lemmas.List.{append_assoc}
use Rattle.std.proofs.lemmas.Str.{IsUtf8-append, IsUtf8-from_ascii}
use Rattle.std.proofs.lemmas.Str.Pattern.{IsSplitOnceResult, split_after}
use Rattle.archive_server.specs.Held.{held_line, held_text}

-- it is text
pub is_text : (n : ℕ) → n < 2 ^ 64 → IsUtf8 (held_text n)
is_text n l =
    let line = IsUtf8-append (decimal n) (10 ∷ []) (IsUtf8-from_ascii (decimal n) (IsAscii-decimal n l)) (search rules) in
    IsUtf8-append (held_line n) (held_line n) line line

-- no digit ends a line
no_end : (digits : List ℕ) → AllDigits 10 digits → (i : ℕ) → i < length digits → get_or digits i 0 ≢ 10
no_end [] all i l = absurd (omega (arith, l))
no_end (d ∷ ds) all zero l = λ e. let k : digit_value 10 < 10 = subst (λ (x : ℕ). digit_value x < 10) e all.0 in omega (arith, k)
no_end (d ∷ ds) all (suc i) l = no_end ds all.1 i (omega (arith, l))

-- the end of its first line comes behind the number
pub starts : (n : ℕ) → held_text n ≡ decimal n ++ (10 ∷ held_line n)
starts n = append_assoc (decimal n) (10 ∷ []) (held_line n)

-- it is parted there
pub parts : (n : ℕ) (text : List ℕ) (found : Option (Bor (List ℕ) × Bor (List ℕ))) → n < 2 ^ 64
    → IsSplitOnceResult 10 text found → text ≡ held_text n
    → MatchOption found ⊥ (λ x. (x.0.now ≡ decimal n) × (x.1.now ≡ held_line n))
parts n text found l splits e = split_after 10 text (decimal n) (held_line n) found splits (omega arith)
    (e ∙ starts n) (no_end (decimal n) (decimal_is_IsNumeral n l).0.1)

-- two lines that are one
pub twice : (text first rest second : List ℕ) → text ≡ first ++ (10 ∷ rest) → rest ≡ second ++ (10 ∷ [])
    → first ≡ second → text ≡ (first ++ (10 ∷ [])) ++ (first ++ (10 ∷ []))
twice text first rest second is behind same =
    is ∙ ap (λ r. first ++ (10 ∷ r)) (behind ∙ ap (λ s. s ++ (10 ∷ [])) (sym same))
    ∙ sym (append_assoc first (10 ∷ []) (first ++ (10 ∷ [])))
