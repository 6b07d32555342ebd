-- Text within HTML, and how it is read back.
use Rattle.std.specs.Prelude.{ℕ, zero, suc, ◌+◌, ◌*◌, ◌/◌, ◌%◌, List, [], ◌∷◌, Option, Some, None}
use Rattle.std.specs.Prelude.{Bool, cond, not, ◌&&◌, ◌||◌, ◌==◌, nat_lt, get_or}
use Rattle.std.specs.Char.{digit_char, digit_value, is_digit}
use Rattle.std.specs.List.{flat_map}
use Rattle.std.specs.Option.{option_map}
use Rattle.archive_page.specs.Characters.{text_of}

-- `"`, `'`, `<` or `>`
abbrev pub is_delimiter : ℕ → Bool
is_delimiter b = ((b == 34) || (b == 39)) || ((b == 60) || (b == 62))

-- a control character of ASCII
abbrev pub is_control_byte : ℕ → Bool
is_control_byte b = nat_lt b 32 || (b == 127)

-- whether a byte can make no markup and is no control character
abbrev pub is_plain : ℕ → Bool
is_plain b = not (is_control_byte b || (is_delimiter b || (b == 38)))

-- a plain byte, or else the reference that stands for it: `&#x`, two hexadecimal digits, and `;` (HTML, 13.1.4)
unfoldable pub escape_byte : ℕ → List ℕ
escape_byte b =
    cond (is_plain b) (b ∷ []) (38 ∷ 35 ∷ 120 ∷ digit_char (b / 16) ∷ digit_char (b % 16) ∷ 59 ∷ [])

-- the text of a value as HTML shows it
unfoldable pub escaped : List ℕ → List ℕ
escaped value = flat_map escape_byte (text_of value)

-- ---- reading it back

-- whether `#x`, two hexadecimal digits and `;` stand at the front, as behind the `&` of a reference
abbrev pub is_reference : List ℕ → Bool
is_reference text =
    ((get_or text 0 0 == 35) && (get_or text 1 0 == 120))
    && ((is_digit (get_or text 2 0) 16 && is_digit (get_or text 3 0) 16) && (get_or text 4 0 == 59))

-- the byte that they stand for
abbrev pub referred : List ℕ → ℕ
referred text = digit_value (get_or text 2 0) * 16 + digit_value (get_or text 3 0)

-- what is read of HTML from so many bytes behind its front on, none where an `&` begins no such reference
unfoldable pub read_from : ℕ → List ℕ → Option (List ℕ)
read_from n [] = cond (n == 0) (Some []) None
read_from (suc n) (b ∷ text) = read_from n text
read_from zero (b ∷ text) =
    cond (b == 38) (cond (is_reference text) (option_map (λ t. referred text ∷ t) (read_from 5 text)) None)
    (option_map (λ t. b ∷ t) (read_from 0 text))

-- what is read of HTML that is text alone, each reference as its byte, also that to 0, which HTML replaces
abbrev pub read_back : List ℕ → Option (List ℕ)
read_back text = read_from 0 text
