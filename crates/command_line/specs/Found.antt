-- What the parser found of the words of a command.
use Rattle.std.specs.Prelude.{ℕ, ◌&&◌, Bool, false, List, [], Option, None, Some, length, nat_lt}
use Rattle.std.specs.Prelude.{if◌then◌else◌, option_and_then, unwrap_or, codes}
use Rattle.std.specs.List.{list_all}
use Rattle.std.specs.Option.{option_map_or}
use Rattle.std.specs.Str.{bytes_eq}
use Rattle.std.specs.Char.{digit_value}
use Rattle.std.specs.Str.Parse.{digits_value, without_leading_plus}
use Rattle.clap.specs.Matches.{found_of}
use Rattle.clap.specs.Walk.{Row, rows_of, first_of, one_of, all_of}
use Rattle.clap.specs.declared.parser.matches.ArgMatches.{ArgMatches}

-- what was found of a command's own words and options
abbrev pub rows_in : ArgMatches → List Row
rows_in found = rows_of (found_of found)

-- the first text of a name, if it is there
unfoldable pub given_at : List Row → List ℕ → Option (List ℕ)
given_at rows name = first_of name rows

-- the first text of a name, or the empty one
abbrev pub text_at : List Row → List ℕ → List ℕ
text_at rows name = unwrap_or (given_at rows name) []

-- the texts of a name, in their order, if it is there
unfoldable pub texts_at : List Row → List ℕ → Option (List (List ℕ))
texts_at rows name = all_of name rows

-- the texts of a name, or none
abbrev pub all_at : List Row → List ℕ → List (List ℕ)
all_at rows name = unwrap_or (texts_at rows name) []

-- one decimal digit or more, of a number below 2^32
abbrev pub is_numeral : List ℕ → Bool
is_numeral digits = nat_lt 0 (length digits) && list_all (λ d. nat_lt (digit_value d) 10) digits
    && nat_lt (digits_value 10 digits) 4294967296

-- the number that a text writes, behind a plus or without one
abbrev pub number_in : List ℕ → Option ℕ
number_in text =
    let digits = without_leading_plus text in
    if is_numeral digits then Some (digits_value 10 digits) else None

-- the number of a name
unfoldable pub number_at : List Row → List ℕ → Option ℕ
number_at rows name = option_and_then number_in (one_of name rows)

-- a number of 16 bits
abbrev pub short_in : ℕ → Option ℕ
short_in number = if nat_lt number 65536 then Some number else None

-- the number of a name, of those up to 65535
abbrev pub short_at : List Row → List ℕ → Option ℕ
short_at rows name = option_and_then short_in (number_at rows name)

-- an option without a value is there
unfoldable pub flag_at : List Row → List ℕ → Bool
flag_at rows name = option_map_or (λ text. bytes_eq text (codes "true")) (one_of name rows) false
