-- Dates and times, and ranges of them, on bytes (PS3.4, C.2.2.2.5; PS3.5, 6.2).
use Rattle.std.specs.Prelude.{ℕ, ◌+◌, List, ◌++◌, length, take, drop, slice_index, position, Option, Some}
use Rattle.std.specs.Prelude.{None, Bool, ◌&&◌, ◌||◌, not, ◌==◌, nat_le, codes}
use Rattle.std.specs.List.{list_all}
use Rattle.std.specs.Ordering.{nat_cmp, is_le}
use Rattle.std.specs.Cmp.Lexicographic.{slice_cmp}
use Rattle.key_matching.specs.declared.range.Moment.{Moment}
use Rattle.key_matching.specs.declared.range.Moment.TheVariants.{Date, Time}

abbrev pub is_digit : ℕ → Bool
is_digit byte = nat_le 48 byte && nat_le byte 57

abbrev pub are_digits : List ℕ → Bool
are_digits text = list_all is_digit text

-- 8 digits
abbrev pub is_date : List ℕ → Bool
is_date text = length text == 8 && are_digits text

-- 2, 4 or 6 digits
abbrev pub is_whole_time : List ℕ → Bool
is_whole_time text = (length text == 2 || length text == 4 || length text == 6) && are_digits text

-- 6 digits, a full stop and 1 to 6 digits
abbrev pub is_fraction_time : List ℕ → Bool
is_fraction_time text =
    nat_le 8 (length text) && nat_le (length text) 13 && are_digits (take 6 text)
    && slice_index text 6 == 0x2e && are_digits (drop 7 text)

-- whether a text is a date or a time
abbrev pub is_moment : Moment → List ℕ → Bool
is_moment Date text = is_date text
is_moment Time text = is_whole_time text || is_fraction_time text

abbrev pub midnight : List ℕ
midnight = codes "000000.000000"

-- a date as it is, and a time with zeros behind it, as HHMMSS.FFFFFF
abbrev pub whole : Moment → List ℕ → List ℕ
whole Date text = text
whole Time text = text ++ drop (length text) midnight

-- whether one date or time is no later than another
abbrev pub is_no_later : Moment → List ℕ → List ℕ → Bool
is_no_later moment a b = is_le (slice_cmp nat_cmp (whole moment a) (whole moment b))

-- ---- ranges

abbrev pub is_dash : ℕ → Bool
is_dash byte = byte == 0x2d

abbrev pub before : List ℕ → Option ℕ → List ℕ
before key None = key
before key (Some at) = take at key

abbrev pub behind : List ℕ → Option ℕ → List ℕ
behind key None = key
behind key (Some at) = drop (at + 1) key

-- the ends of a range stand around its first dash; one date or time is both ends
abbrev pub first_end : List ℕ → List ℕ
first_end key = before key (position is_dash key)

abbrev pub last_end : List ℕ → List ℕ
last_end key = behind key (position is_dash key)

-- an end that is left open
abbrev pub is_open : List ℕ → Bool
is_open text = length text == 0

abbrev pub is_end : Moment → List ℕ → Bool
is_end moment text = is_open text || is_moment moment text

-- whether a key is one date or time, or a range of them, of which one end may be left open
abbrev pub is_range : Moment → List ℕ → Bool
is_range moment key =
    is_end moment (first_end key) && is_end moment (last_end key)
    && not (is_open (first_end key) && is_open (last_end key))

abbrev pub is_from : Moment → List ℕ → List ℕ → Bool
is_from moment first value =
    is_open first || (is_moment moment first && is_no_later moment first value)

abbrev pub is_until : Moment → List ℕ → List ℕ → Bool
is_until moment last value =
    is_open last || (is_moment moment last && is_no_later moment value last)

-- whether a value is a date or a time and lies in a range, both ends included
abbrev pub is_in_range : Moment → List ℕ → List ℕ → Bool
is_in_range moment key value =
    is_moment moment value && is_from moment (first_end key) value
    && is_until moment (last_end key) value
