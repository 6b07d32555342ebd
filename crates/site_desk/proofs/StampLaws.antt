-- The line of a stamp is read as that stamp.
use Rattle.std.proofs.Common.{◌≡◌, ◌≢◌, ℕ, zero, suc, ◌<◌, List, [], ◌∷◌, ◌++◌, Option, Some, Result, Ok, Err}
use Rattle.std.proofs.Common.{length, drop, get_or, arith, refl, sym, ap, subst, ◌∙◌, codes, MatchOption, Bor, rules}
use Rattle.std.specs.Prelude.{IsUtf8}
use Rattle.std.specs.Fmt.{decimal}
use Rattle.std.proofs.lemmas.Str.{IsUtf8-append, IsUtf8-from_ascii}
use Rattle.std.proofs.lemmas.Str.Pattern.{IsSplitOnceResult, split_after}
use Rattle.std.specs.Char.{digit_value}
use Rattle.std.specs.Str.Parse.{AllDigits}
use Rattle.std.proofs.lemmas.Fmt.{IsAscii-decimal, decimal_is_IsNumeral}
use Rattle.site_desk.specs.declared.answer.Made.{Made}
use Rattle.site_desk.specs.Answers.{stamp_line}
use Rattle.site_desk.specs.Outcomes.{IsStamp, stamp_text}

-- the line is its first word, the text of the stamp and its end
pub line_is : (made : Made) → stamp_line made ≡ codes "stamp " ++ (stamp_text made ++ (10 ∷ []))
line_is made = refl

-- it is text
pub is_text : (made : Made) → IsStamp made → IsUtf8 (stamp_line made)
is_text made is = subst IsUtf8 (sym (line_is made))
    (IsUtf8-append (codes "stamp ") (stamp_text made ++ (10 ∷ [])) (search rules)
    (IsUtf8-append (stamp_text made) (10 ∷ [])
    (IsUtf8-append (decimal made.counter) (32 ∷ decimal made.site)
    (IsUtf8-from_ascii (decimal made.counter) (IsAscii-decimal made.counter is.0))
    (IsUtf8-append (32 ∷ []) (decimal made.site) (search rules)
    (IsUtf8-from_ascii (decimal made.site) (IsAscii-decimal made.site (omega (arith, is.1))))))
    (search rules)))

-- no digit is a space
no_space : (digits : List ℕ) → AllDigits 10 digits → (i : ℕ) → i < length digits → get_or digits i 0 ≢ 32
no_space [] all i l = absurd (omega (arith, l))
no_space (d ∷ ds) all zero l = λ e. let k : digit_value 32 < 10 = subst (λ (x : ℕ). digit_value x < 10) e all.0 in omega (arith, k)
no_space (d ∷ ds) all (suc i) l = no_space ds all.1 i (omega (arith, l))

-- it is parted at its space
pub parts : (made : Made) (text : List ℕ) (found : Option (Bor (List ℕ) × Bor (List ℕ))) → IsStamp made
    → IsSplitOnceResult 32 text found → text ≡ stamp_text made
    → MatchOption found ⊥ (λ x. (x.0.now ≡ decimal made.counter) × (x.1.now ≡ decimal made.site))
parts made text found is splits e = split_after 32 text (decimal made.counter) (decimal made.site) found splits (omega arith)
    e (no_space (decimal made.counter) (decimal_is_IsNumeral made.counter is.0).0.1)

-- the number that was read, or 0
ok_of : {E : Type 0} → Result ℕ E → ℕ
ok_of (Ok number) = number
ok_of (Err fault) = 0

-- the numbers that are read are those of the stamp
pub stamp_read : {E F : Type 0} (counter site : ℕ) (first : Result ℕ E) (second : Result ℕ F) (made : Made)
    → first ≡ Ok counter → first ≡ Ok made.counter → second ≡ Ok site → second ≡ Ok made.site
    → Some (record { counter = counter; site = site }) ≡ Some made
unfolding ok_of
stamp_read counter site first second made a b c d =
    λ i. Some (record { counter = (ap ok_of (sym a) ∙ ap ok_of b) i; site = (ap ok_of (sym c) ∙ ap ok_of d) i })

-- behind its first word
pub rest_is : (made : Made) (text rest : List ℕ) (count : ℕ) → text ≡ stamp_line made → count ≡ 6 → rest ≡ drop count text
    → rest ≡ stamp_text made ++ (10 ∷ [])
rest_is made text rest count e six is = is ∙ (λ i. drop (six i) ((e ∙ line_is made) i))
