-- The parts of a correction: which of them may not be, and a value that no query matches.
use Rattle.std.specs.Prelude.{ℕ, List, length, Bool, not, ◌&&◌, ◌||◌, ◌==◌, Option, Some, None}
use Rattle.std.specs.Prelude.{if◌then◌else◌}
use Rattle.std.specs.List.{list_any}
use Rattle.dictionary.specs.declared.elements.TheConstants.{PATIENT_NAME, SERIES_DESCRIPTION}
use Rattle.dictionary.specs.declared.role.Role.{Role}
use Rattle.dictionary.specs.declared.role.Role.TheVariants.{Plain, Kept, Counted, Key as a_key, Corrected}
use Rattle.dictionary.specs.Elements.{role_in_table}
use Rattle.dictionary.specs.declared.role.Matching.{Matching}
use Rattle.dictionary.specs.declared.role.Matching.TheVariants.{Dates, Times, WildCard, Name, Uids, Single}
use Rattle.dictionary.specs.declared.role.Matching.TheVariants.{Answered}
use Rattle.key_matching.specs.Matches.{is_of_form}
use Rattle.key_matching.specs.Range.{is_dash}
use Rattle.operation.specs.declared.target.Target.{Target}
use Rattle.operation.specs.declared.target.Target.TheVariants.{Study, Patient, Series}
use Rattle.operation.specs.Corrections.{is_key, is_tag_for, is_plain}
use Rattle.command_words.specs.declared.Change.{Change}
use Rattle.command_words.specs.declared.parts.Part.{Part}
use Rattle.command_words.specs.declared.parts.Part.TheVariants.{Key, Tag, Value}

-- an attribute that a target can have
abbrev pub tag_for : Target → ℕ
tag_for (Study key) = PATIENT_NAME
tag_for (Patient key) = PATIENT_NAME
tag_for (Series key) = SERIES_DESCRIPTION

-- the first part of a change, in their order on a command line, that may not be
abbrev pub bad_part_of : Change → Option Part
bad_part_of change =
    if not (is_key change.target) then Some Key
    else (if not (is_tag_for change.target change.tag) then Some Tag
    else (if not (is_plain change.value) then Some Value else None))

abbrev pub moment_of : Matching → Option Matching
moment_of Dates = Some Dates
moment_of Times = Some Times
moment_of WildCard = None
moment_of Name = None
moment_of Uids = None
moment_of Single = None
moment_of Answered = None

abbrev pub moment_in : Role → Option Matching
moment_in Plain = None
moment_in Kept = None
moment_in (Counted entity) = None
moment_in (a_key entity matching) = None
moment_in (Corrected entity matching) = moment_of matching

-- how keys match the attributes that hold dates and times and can be corrected
abbrev pub matching_of : ℕ → Option Matching
matching_of tag = moment_in (role_in_table tag)

-- what parts the ends of a range
abbrev pub has_dash : List ℕ → Bool
has_dash value = list_any is_dash value

-- one date or one time: a key of its matching's form that is no range
abbrev pub is_one : Matching → List ℕ → Bool
is_one matching value = is_of_form matching value && not (has_dash value)

-- the matching by which no key but a universal one matches a value: it is not empty, and no date or no time
abbrev pub unmatched_by : Option Matching → List ℕ → Option Matching
unmatched_by None value = None
unmatched_by (Some matching) value = if length value == 0 || is_one matching value then None else Some matching
