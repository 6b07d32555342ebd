-- The lines of an input are what its LFs part.
use Rattle.std.proofs.Common.{◌≡◌, ℕ, ◌+◌, List, [], ◌∷◌, ◌++◌, length, Bool, true, false, cond, refl, sym, ap, subst}
use Rattle.std.proofs.Common.{◌∙◌}
use Rattle.std.proofs.Common.{◌==◌, append_assoc, arith}
use Rattle.std.specs.Prelude.{nat_le, nat_lt}
use Rattle.std.specs.List.{join_with_byte}
use Rattle.std.proofs.lemmas.List.{append-nil, length_push as one_longer}
use Rattle.std.proofs.lemmas.Bool.{eqb-true}
use Rattle.std.proofs.lemmas.Bool.Decides.{nat_tests}
use Rattle.site_script.specs.Commands.{command_of}
use Rattle.site_simulation.specs.Lines.{lines_from, is_too_long, printed_of, LinesAreTheText, OutputIsOfLines}
use Rattle.site_simulation.specs.Output.{without_cr, is_full, NOTHING, output_from}
use Rattle.site_simulation.specs.Script.{printed, after}
use Rattle.site_simulation.specs.State.{State}

-- ---- there is a first line

-- lines, of which there is one
abbrev pub HasFirst : List (List ℕ) → Type 0
HasFirst lines = (line : List ℕ) × (more : List (List ℕ)) × (lines ≡ line ∷ more)

some_by : (c : Bool) (front : List ℕ) (xs ys : List (List ℕ)) → HasFirst ys → HasFirst (cond c (front ∷ xs) ys)
some_by true front xs ys some = (front, xs, refl)
some_by false front xs ys some = some

some_lines : (front rest : List ℕ) → HasFirst (lines_from front rest)
some_lines front [] = (front, [], refl)
some_lines front (b ∷ rest) =
    some_by (b == 10) front (lines_from [] rest) (lines_from (front ++ b ∷ []) rest) (some_lines (front ++ b ∷ []) rest)

-- ---- the lines are the text

join_more : (front : List ℕ) (lines : List (List ℕ)) → HasFirst lines
    → join_with_byte 10 (front ∷ lines) ≡ front ++ (10 ∷ join_with_byte 10 lines)
join_more front lines (line, more, is) =
    subst (λ (ls : List (List ℕ)). join_with_byte 10 (front ∷ ls) ≡ front ++ (10 ∷ join_with_byte 10 ls)) (sym is) refl

text_by : (b : ℕ) (c : Bool) (front rest : List ℕ) (xs ys : List (List ℕ)) → (b == 10) ≡ c → HasFirst xs
    → join_with_byte 10 xs ≡ rest → join_with_byte 10 ys ≡ (front ++ b ∷ []) ++ rest
    → join_with_byte 10 (cond c (front ∷ xs) ys) ≡ front ++ (b ∷ rest)
text_by b true front rest xs ys is some one more =
    join_more front xs some ∙ ap (λ (t : List ℕ). front ++ (10 ∷ t)) one
    ∙ ap (λ (x : ℕ). front ++ (x ∷ rest)) (sym (eqb-true b 10 is))
text_by b false front rest xs ys is some one more = more ∙ append_assoc front (b ∷ []) rest

text_from : (front rest : List ℕ) → join_with_byte 10 (lines_from front rest) ≡ front ++ rest
text_from front [] = sym (append-nil front)
text_from front (b ∷ rest) =
    text_by b (b == 10) front rest (lines_from [] rest) (lines_from (front ++ b ∷ []) rest) refl (some_lines [] rest)
    (text_from [] rest) (text_from (front ++ b ∷ []) rest)

pub lines_text : LinesAreTheText
lines_text input = text_from [] input

-- ---- and they print the output

full_long : (n m : ℕ) → m ≡ n + 1 → nat_le 65536 n ≡ true → nat_lt 65536 m ≡ true
full_long n m is full = grind (arith, nat_tests)

still_long : (n m : ℕ) → m ≡ n + 1 → nat_lt 65536 n ≡ true → nat_lt 65536 m ≡ true
still_long n m is long = grind (arith, nat_tests)

still_fits : (n m : ℕ) → m ≡ n + 1 → nat_le 65536 n ≡ false → nat_lt 65536 m ≡ false
still_fits n m is room = grind (arith, nat_tests)

print_more : (state : State) (front : List ℕ) (lines : List (List ℕ)) → HasFirst lines
    → printed_of state (front ∷ lines)
    ≡ cond (is_too_long front) [] (printed state (command_of (without_cr front)) ++ printed_of (after state (command_of
    (without_cr front))) lines)
print_more state front lines (line, more, is) =
    subst (λ (ls : List (List ℕ)). printed_of state (front ∷ ls)
    ≡ cond (is_too_long front) [] (printed state (command_of (without_cr front)) ++ printed_of (after state (command_of
    (without_cr front))) ls))
    (sym is) refl

long_by : (state : State) (c : Bool) (front : List ℕ) (xs ys : List (List ℕ)) → is_too_long front ≡ true → HasFirst xs
    → printed_of state ys ≡ [] → printed_of state (cond c (front ∷ xs) ys) ≡ []
long_by state true front xs ys long some more =
    print_more state front xs some
    ∙ ap (λ (c : Bool). cond c [] (printed state (command_of (without_cr front)) ++ printed_of (after state (command_of
    (without_cr front))) xs)) long
long_by state false front xs ys long some more = more

-- A line that is too long prints nothing, and nothing is printed behind it.
long_from : (state : State) (front rest : List ℕ) → is_too_long front ≡ true →
    printed_of state (lines_from front rest) ≡ []
long_from state front [] long = ap (λ (c : Bool). cond c [] (printed state (command_of front))) long
long_from state front (b ∷ rest) long =
    long_by state (b == 10) front (lines_from [] rest) (lines_from (front ++ b ∷ []) rest) long (some_lines [] rest)
    (long_from state (front ++ b ∷ []) rest (still_long (length front) _ (one_longer front b) long))

out_by : (state : State) (is_end full : Bool) (front other said : List ℕ) (xs ys : List (List ℕ)) →
    is_too_long front ≡ false → HasFirst xs
    → said ≡ printed_of (after state (command_of (without_cr front))) xs
    → (full ≡ true → printed_of state ys ≡ []) → (full ≡ false → other ≡ printed_of state ys)
    → cond is_end (printed state (command_of (without_cr front)) ++ said) (cond full [] other)
    ≡ printed_of state (cond is_end (front ∷ xs) ys)
out_by state true full front other said xs ys fits some one long more =
    ap (λ (t : List ℕ). printed state (command_of (without_cr front)) ++ t) one
    ∙ sym (print_more state front xs some
    ∙ ap (λ (c : Bool). cond c [] (printed state (command_of (without_cr front)) ++ printed_of (after state (command_of
    (without_cr front))) xs)) fits)
out_by state false true front other said xs ys fits some one long more = sym (long refl)
out_by state false false front other said xs ys fits some one long more = more refl

out_from : (state : State) (front rest : List ℕ) → is_too_long front ≡ false →
    output_from state front rest ≡ printed_of state (lines_from front rest)
out_from state front [] fits = sym (ap (λ (c : Bool). cond c [] (printed state (command_of front))) fits)
out_from state front (b ∷ rest) fits =
    let next = after state (command_of (without_cr front)) in
    out_by state (b == 10) (is_full front) front (output_from state (front ++ b ∷ []) rest) (output_from next [] rest)
    (lines_from [] rest) (lines_from (front ++ b ∷ []) rest) fits (some_lines [] rest) (out_from next [] rest refl)
    (λ full. long_from state (front ++ b ∷ []) rest (full_long (length front) _ (one_longer front b) full))
    (λ room. out_from state (front ++ b ∷ []) rest (still_fits (length front) _ (one_longer front b) room))

pub output_lines : OutputIsOfLines
output_lines input = out_from NOTHING [] input refl
