-- Which contents there are (docs/DECISIONS.md, "Contents").
use Rattle.std.specs.Prelude.{◌≡◌, ℕ, ◌<◌, ◌≤◌, List, length, Bool, false, not, ◌&&◌, Option, Some, None}
use Rattle.std.specs.Prelude.{Result, Ok, Err, nat_eq, if◌then◌else◌}
use Rattle.std.specs.List.{filter_map}
use Rattle.std.specs.Option.{option_map}
use Rattle.std.specs.Cmp.Lexicographic.{pointwise}
use Rattle.dictionary.specs.declared.elements.TheConstants.{SERIES_INSTANCE_UID, SOP_CLASS_UID, SOP_INSTANCE_UID}
use Rattle.dictionary.specs.declared.elements.TheConstants.{STUDY_INSTANCE_UID}
use Rattle.dictionary.specs.Roles.{kept_tags}
use Rattle.data_set.specs.Tree.{Tree}
use Rattle.data_set.specs.Texts.{Spells}
use Rattle.octets.specs.Uid.{is_uid_text}
use Rattle.octets.specs.Padding.{without_padding}
use Rattle.data_set.specs.Values.{value_in}
use Rattle.data_set.specs.declared.syntax.Syntax.{Syntax}
use Rattle.rejection_note.specs.declared.fault.NoteFault.{NoteFault}
use Rattle.rejection_note.specs.declared.note.Note.{Note}
use Rattle.rejection_note.specs.Notes.{note_in}
use Rattle.operation.specs.declared.draft.Draft.{Draft}
use Rattle.operation.specs.declared.fault.OpFault.{OpFault}
use Rattle.operation.specs.declared.fault.OpFault.TheVariants.{NoUid, Mismatch, BadSet, BadNote, TooLong}
use Rattle.operation.specs.Drafts.{digest_of_draft}
use Rattle.operation.specs.Parts.{ContentParts, KeptParts, value_at, value_or_empty, with_body}

-- the most bytes of a data set
abbrev pub longest : ℕ
longest = 67108864

abbrev pub IsShort : Draft → Type 0
IsShort draft = length draft.body ≤ longest

-- ---- the values that are kept

abbrev pub tagged : ℕ → List Tree → Option (ℕ × List ℕ)
tagged tag elements = option_map (λ value. (tag, value)) (value_in tag elements)

-- their trimmed values; none where the element is missing or holds items
abbrev pub values_in : List Tree → List (ℕ × List ℕ)
values_in elements = filter_map (λ tag. tagged tag elements) kept_tags

-- ---- what a content's elements must say

abbrev pub is_uid_value : Option (List ℕ) → Bool
is_uid_value None = false
is_uid_value (Some value) = is_uid_text value

abbrev pub is_value : List ℕ → Option (List ℕ) → Bool
is_value text None = false
is_value text (Some value) = pointwise nat_eq value text

-- Class and instance are UIDs, and so are SOP Class UID (0008,0016), SOP Instance UID (0008,0018), Study Instance UID
-- (0020,000D) and Series Instance UID (0020,000E).
abbrev pub has_uids : List ℕ → List ℕ → List Tree → Bool
has_uids class instance elements =
    is_uid_text class && is_uid_text instance
    && is_uid_value (value_in SOP_CLASS_UID elements) && is_uid_value (value_in SOP_INSTANCE_UID elements)
    && is_uid_value (value_in STUDY_INSTANCE_UID elements) && is_uid_value (value_in SERIES_INSTANCE_UID elements)

-- Class and instance are those that the elements name.
abbrev pub names_itself : List ℕ → List ℕ → List Tree → Bool
names_itself class instance elements =
    is_value class (value_in SOP_CLASS_UID elements) && is_value instance (value_in SOP_INSTANCE_UID elements)

abbrev pub note_offence : Result (Option Note) NoteFault → Option OpFault
note_offence (Ok said) = None
note_offence (Err fault) = Some BadNote

-- what offends in the elements of a draft, in the order in which it is told
unfoldable pub offence : Draft → List Tree → Option OpFault
offence draft elements =
    if not (has_uids draft.class draft.instance elements) then Some NoUid
    else if not (names_itself draft.class draft.instance elements) then Some Mismatch
    else note_offence (note_in draft.class elements)

-- ---- contents

abbrev pub draft_of : ContentParts → Draft
draft_of c = record { class = c.class; instance = c.instance; syntax = c.syntax; body = c.body }

-- what is kept of a draft: its class and its instance are among the values
abbrev pub parts_of : Draft → List (ℕ × List ℕ) → Option Note → KeptParts
parts_of draft values note = record {
  class = value_or_empty (value_at SOP_CLASS_UID values);
  instance = value_or_empty (value_at SOP_INSTANCE_UID values);
  syntax = draft.syntax;
  size = length draft.body;
  values = values;
  note = note;
}

-- and with its bytes
abbrev pub kept_of : Draft → List (ℕ × List ℕ) → Option Note → ContentParts
kept_of draft values note = with_body (parts_of draft values note) draft.body

-- These are the elements of a content.
pub record Describes (elements : List Tree) (content : ContentParts) : Type 0 where
  pub digest : content.digest ≡ digest_of_draft (draft_of content)
  pub short : IsShort (draft_of content)
  pub spelled : Spells content.syntax content.body elements
  pub faultless : offence (draft_of content) elements ≡ None
  pub values : content.values ≡ values_in elements
  pub note : note_in content.class elements ≡ Ok content.note

-- what a content keeps true of its parts
abbrev pub IsContent : ContentParts → Type 0
IsContent content = ∥ ((elements : List Tree) × Describes elements content) ∥₁

-- ---- and what is none

abbrev pub SpellsNothing : Draft → Type 0
SpellsNothing draft = (elements : List Tree) → Spells draft.syntax draft.body elements → ⊥

-- Its data set spells elements of which this is the first that offends.
abbrev pub Offends : Draft → OpFault → Type 0
Offends draft fault = (elements : List Tree) × Spells draft.syntax draft.body elements
    × (offence draft elements ≡ Some fault)

-- The draft is no content, for this fault.
abbrev pub IsRefused : Draft → OpFault → Type 0
IsRefused draft TooLong = longest < length draft.body
IsRefused draft BadSet = IsShort draft × SpellsNothing draft
IsRefused draft fault = IsShort draft × Offends draft fault

-- what becomes of a draft
abbrev pub IsOutcome : Draft → Result ContentParts OpFault → Type 0
IsOutcome draft (Ok content) = (draft_of content ≡ draft) × IsContent content
IsOutcome draft (Err fault) = IsRefused draft fault

-- the draft of class and instance as they are given: without the 00 and 20 bytes at their ends (PS3.5, 9.1)
abbrev pub drafted : List ℕ → List ℕ → Syntax → List ℕ → Draft
drafted class instance syntax body =
    record { class = without_padding class; instance = without_padding instance; syntax = syntax; body = body }
