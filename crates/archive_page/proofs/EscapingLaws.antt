-- What is escaped has no byte of markup but in its references, and reads back.
use Rattle.std.proofs.Common.{◌≡◌, ℕ, ◌+◌, ◌*◌, ◌/◌, ◌%◌, ◌<◌, List, [], ◌∷◌, ◌++◌, refl, ap, ◌∙◌, arith}
use Rattle.std.proofs.Common.{Bool, true, false, ◌||◌, ◌==◌, Some}
use Rattle.std.specs.Prelude.{not, ◌&&◌, nat_lt}
use Rattle.std.specs.Char.{digit_char, digit_value}
use Rattle.std.specs.List.{flat_map, list_all}
use Rattle.std.specs.Option.{option_map}
use Rattle.std.specs.Str.{is_utf8}
use Rattle.std.proofs.lemmas.Str.{digit_value-digit_char}
use Rattle.std.proofs.lemmas.List.Folds.{list_all-append}
use Rattle.std.proofs.lemmas.Bool.{and_from as both}
use Rattle.archive_page.specs.Characters.{text_of}
use Rattle.archive_page.proofs.CharacterLaws.{utf8_stays}
use Rattle.archive_page.specs.Escaping.{is_delimiter, is_control_byte, is_plain, escape_byte, escaped}
use Rattle.archive_page.specs.Escaping.{read_from, read_back}

-- a byte that is not plain is below 128
below_128 : (b : ℕ) → is_plain b ≡ false → b < 128
below_128 b h = grind (arith, h)

-- neither a quotation mark nor a bracket, and no control character
abbrev harmless : ℕ → Bool
harmless b = not (is_control_byte b || is_delimiter b)

plain_is_harmless : (b : ℕ) → is_plain b ≡ true → harmless b ≡ true
plain_is_harmless b h = first_two (is_control_byte b) (is_delimiter b) (b == 38) h
  where
    first_two : (c d e : Bool) → not (c || (d || e)) ≡ true → not (c || d) ≡ true
    first_two false false e p = refl
    first_two false true e p = p
    first_two true d e p = p

plain_is_no_ampersand : (b : ℕ) → is_plain b ≡ true → (b == 38) ≡ false
plain_is_no_ampersand b h = last (is_control_byte b) (is_delimiter b) (b == 38) h
  where
    last : (c d e : Bool) → not (c || (d || e)) ≡ true → e ≡ false
    last false false false p = refl
    last false false true p = absurd cc
    last false true e p = absurd cc
    last true d e p = absurd cc

digit_is_harmless : (d : ℕ) → d < 16 → harmless (digit_char d) ≡ true
digit_is_harmless d lt = grind (arith, lt)

by_plain : (b : ℕ) (is : Bool) → is_plain b ≡ is → list_all harmless (escape_byte b) ≡ true
unfolding escape_byte
by_plain b true is = rw is (both (harmless b) true (plain_is_harmless b is) refl)
by_plain b false is =
    let lt = below_128 b is in
    rw is (both (harmless (digit_char (b / 16))) _ (digit_is_harmless (b / 16) (omega (arith, lt)))
    (both (harmless (digit_char (b % 16))) true (digit_is_harmless (b % 16) (omega (arith, lt))) refl))

text_harmless : (text : List ℕ) → list_all harmless (flat_map escape_byte text) ≡ true
text_harmless [] = refl
text_harmless (b ∷ text) = list_all-append harmless (escape_byte b) (flat_map escape_byte text)
    ∙ both (list_all harmless (escape_byte b)) (list_all harmless (flat_map escape_byte text))
    (by_plain b (is_plain b) refl) (text_harmless text)

-- ---- what is escaped

harmless_is_no_delimiter : (bytes : List ℕ) → list_all harmless bytes ≡ true
    → list_all (λ b. not (is_delimiter b)) bytes ≡ true
harmless_is_no_delimiter [] h = refl
harmless_is_no_delimiter (b ∷ bytes) h =
    let p = parts (is_control_byte b) (is_delimiter b) (list_all harmless bytes) h in
    both (not (is_delimiter b)) (list_all (λ b. not (is_delimiter b)) bytes) p.0 (harmless_is_no_delimiter bytes p.1)
  where
    parts : (c d rest : Bool) → (not (c || d) && rest) ≡ true → (not d ≡ true) × (rest ≡ true)
    parts false false rest p = (refl, p)
    parts false true rest p = absurd cc
    parts true d rest p = absurd cc

harmless_is_no_control : (bytes : List ℕ) → list_all harmless bytes ≡ true
    → list_all (λ b. not (is_control_byte b)) bytes ≡ true
harmless_is_no_control [] h = refl
harmless_is_no_control (b ∷ bytes) h =
    let p = parts (is_control_byte b) (is_delimiter b) (list_all harmless bytes) h in
    both (not (is_control_byte b)) (list_all (λ b. not (is_control_byte b)) bytes) p.0
    (harmless_is_no_control bytes p.1)
  where
    parts : (c d rest : Bool) → (not (c || d) && rest) ≡ true → (not c ≡ true) × (rest ≡ true)
    parts false false rest p = (refl, p)
    parts false true rest p = absurd cc
    parts true d rest p = absurd cc

pub no_delimiter : (value : List ℕ) → list_all (λ b. not (is_delimiter b)) (escaped value) ≡ true
unfolding escaped
no_delimiter value = harmless_is_no_delimiter (flat_map escape_byte (text_of value)) (text_harmless (text_of value))

pub no_control : (value : List ℕ) → list_all (λ b. not (is_control_byte b)) (escaped value) ≡ true
unfolding escaped
no_control value = harmless_is_no_control (flat_map escape_byte (text_of value)) (text_harmless (text_of value))

-- ---- reading back

-- a reference of two digits is read as the byte that they spell
read_reference : (high low x y : ℕ) (rest : List ℕ) → digit_value high ≡ x → digit_value low ≡ y → x < 16 → y < 16
    → read_from 0 (38 ∷ 35 ∷ 120 ∷ high ∷ low ∷ 59 ∷ rest) ≡ option_map (λ t. (x * 16 + y) ∷ t) (read_from 0 rest)
unfolding read_from
read_reference high low x y rest p q r s =
    let a : nat_lt x 16 ≡ true = grind (arith, r) in
    let b : nat_lt y 16 ≡ true = grind (arith, s) in rw (p, q, a, b) refl

-- what stands for a byte is read as that byte, whatever is behind it
read_byte : (b : ℕ) (is : Bool) (text rest : List ℕ) → is_plain b ≡ is → read_from 0 rest ≡ Some text
    → read_from 0 (escape_byte b ++ rest) ≡ Some (b ∷ text)
unfolding escape_byte read_from
read_byte b true text rest is behind = rw (is, plain_is_no_ampersand b is, behind) refl
read_byte b false text rest is behind =
    let lt = below_128 b is in let x = b / 16 in let y = b % 16 in
    let whole : x * 16 + y ≡ b = omega arith in
    rw is (read_reference (digit_char x) (digit_char y) x y rest
    (digit_value-digit_char x (omega (arith, lt))) (digit_value-digit_char y (omega (arith, lt)))
    (omega (arith, lt)) (omega (arith, lt)) ∙ ap (option_map (λ t. (x * 16 + y) ∷ t)) behind
    ∙ ap (λ c. Some (c ∷ text)) whole)

bytes_back : (text : List ℕ) → read_from 0 (flat_map escape_byte text) ≡ Some text
unfolding read_from
bytes_back [] = refl
bytes_back (b ∷ text) =
    read_byte b (is_plain b) text (flat_map escape_byte text) refl (bytes_back text)

pub reads_back : (value : List ℕ) → read_back (escaped value) ≡ Some (text_of value)
unfolding escaped
reads_back value = bytes_back (text_of value)

pub utf8_is_read_back : (value : List ℕ) → is_utf8 value ≡ true → read_back (escaped value) ≡ Some value
utf8_is_read_back value h = reads_back value ∙ ap Some (utf8_stays value h)
