-- Which values a key matches, on bytes (PS3.4, C.2.2.2).
use Rattle.std.specs.Prelude.{ℕ, List, [], ◌∷◌, length, Bool, true, false, ◌||◌, ◌==◌, nat_eq}
use Rattle.std.specs.List.{list_any, list_all, slice_split}
use Rattle.std.specs.Cmp.Lexicographic.{pointwise}
use Rattle.octets.specs.Padding.{trimmed}
use Rattle.octets.specs.Uid.{is_uid_text}
use Rattle.dictionary.specs.declared.role.Matching.{Matching}
use Rattle.dictionary.specs.declared.role.Matching.TheVariants.{Dates, Times, WildCard, Name, Uids, Single}
use Rattle.dictionary.specs.declared.role.Matching.TheVariants.{Answered}
use Rattle.key_matching.specs.declared.range.Moment.TheVariants.{Date, Time}
use Rattle.key_matching.specs.WildCard.{star, is_wild_match}
use Rattle.key_matching.specs.Range.{is_range, is_in_range}

-- an empty key, and `*` alone, match every value
abbrev pub is_universal : List ℕ → Bool
is_universal key = length key == 0 || pointwise nat_eq key (star ∷ [])

-- a backslash parts the members of a list
abbrev pub is_backslash : ℕ → Bool
is_backslash byte = byte == 0x5c

-- the members of a list of UIDs, as they are written
abbrev pub parts : List ℕ → List (List ℕ)
parts key = slice_split is_backslash key

abbrev pub is_uid_part : List ℕ → Bool
is_uid_part part = is_uid_text (trimmed part)

abbrev pub is_same_part : List ℕ → List ℕ → Bool
is_same_part value part = pointwise nat_eq (trimmed part) value

-- whether a key that is not universal has a form that its matching has
abbrev pub is_of_form : Matching → List ℕ → Bool
is_of_form Dates key = is_range Date key
is_of_form Times key = is_range Time key
is_of_form Uids key = list_all is_uid_part (parts key)
is_of_form WildCard key = true
is_of_form Name key = true
is_of_form Single key = true
is_of_form Answered key = true

-- whether a key that is not universal matches a value that is not empty
abbrev pub is_match_by : Matching → List ℕ → List ℕ → Bool
is_match_by Dates key value = is_in_range Date key value
is_match_by Times key value = is_in_range Time key value
is_match_by WildCard key value = is_wild_match false key value
is_match_by Name key value = is_wild_match true key value
is_match_by Uids key value = list_any (is_same_part value) (parts key)
is_match_by Single key value = pointwise nat_eq key value
is_match_by Answered key value = true

-- whether a key matches a value; a value of zero length matches every key
abbrev pub matches : Matching → List ℕ → List ℕ → Bool
matches matching key value = is_universal key || length value == 0 || is_match_by matching key value
