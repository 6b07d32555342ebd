-- Numbers in decimal digits.
use Rattle.std.specs.Prelude.{ℕ, ◌+◌, ◌-◌, ◌*◌, List, [], ◌∷◌, Option, Some, None, Bool, nat_le, ◌&&◌, if◌then◌else◌}

-- whether a byte is a decimal digit
abbrev pub is_digit : ℕ → Bool
is_digit b = nat_le 48 b && nat_le b 57

-- the greatest number that is told
abbrev pub GREATEST : ℕ
GREATEST = 18446744073709551615

abbrev pub if_fits : ℕ → Option ℕ
if_fits n = if nat_le n GREATEST then Some n else None

-- a number with one digit more behind it, where it fits
abbrev pub with_digit : ℕ → ℕ → Option ℕ
with_digit n b = if is_digit b then if_fits (10 * n + (b - 48)) else None

-- a number with some bytes more behind it
abbrev pub number_from : Option ℕ → List ℕ → Option ℕ
number_from None word = None
number_from (Some n) [] = Some n
number_from (Some n) (b ∷ word) = number_from (with_digit n b) word

-- the number that a word spells in one decimal digit or more, where it fits
abbrev pub number_in : List ℕ → Option ℕ
number_in [] = None
number_in (b ∷ word) = number_from (Some 0) (b ∷ word)
