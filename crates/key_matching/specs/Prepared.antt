-- The members of keys that are lists of UIDs.
use Rattle.std.specs.Prelude.{◌≡◌, ℕ, List, [], map, Bool, true, false, if◌then◌else◌}
use Rattle.octets.specs.Padding.{trimmed}
use Rattle.octets.specs.Texts.{ascending}
use Rattle.dictionary.specs.declared.role.Matching.{Matching}
use Rattle.dictionary.specs.declared.role.Matching.TheVariants.{Dates, Times, WildCard, Name, Uids, Single}
use Rattle.dictionary.specs.declared.role.Matching.TheVariants.{Answered}
use Rattle.key_matching.specs.Matches.{parts}

-- whether a key lists UIDs
abbrev pub is_uids : Matching → Bool
is_uids Uids = true
is_uids Dates = false
is_uids Times = false
is_uids WildCard = false
is_uids Name = false
is_uids Single = false
is_uids Answered = false

-- the members of a list of UIDs, ascending, each once; of any other key none
abbrev pub members_in : Matching → List ℕ → List (List ℕ)
members_in matching key = if is_uids matching then ascending (map trimmed (parts key)) else []

abbrev pub HasMembers : Matching → List ℕ → List (List ℕ) → Type 0
HasMembers matching key members = members ≡ members_in matching key
