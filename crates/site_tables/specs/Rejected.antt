-- What rejection notes name (IHE RAD-66). A note of whichever title hides in ARCHIVE.
use Rattle.std.specs.Prelude.{ℕ, List, [], ◌∷◌, ◌++◌, Option, Some, None, Bool, if◌then◌else◌, map}
use Rattle.std.specs.List.{filter, filter_map, flat_map, join_with_byte, list_any}
use Rattle.std.specs.Fmt.{decimal}
use Rattle.octets.specs.Texts.{ascending}
use Rattle.rejection_note.specs.declared.note.Note.{Note}
use Rattle.rejection_note.specs.declared.title.NoteTitle.{NoteTitle}
use Rattle.rejection_note.specs.declared.title.NoteTitle.TheVariants.{Quality, Safety, Worklist, Expired}
use Rattle.operation.specs.declared.op.Op.{Op}
use Rattle.operation.specs.declared.op.Op.TheVariants.{Content as a_content, Correction as a_correction}
use Rattle.operation.specs.Parts.{ContentParts}
use Rattle.archive_model.specs.Covered.{is_among}
use Rattle.site_tables.specs.declared.under.Under.{Under}
use Rattle.site_tables.specs.Under.{pairs, held_under}
use Rattle.archive_model.specs.Index.{code_of, names_under}

-- a content, where it is a note
abbrev pub if_note : ContentParts → Option Note → Option ContentParts
if_note c None = None
if_note c (Some note) = Some c

abbrev pub note_of : Op → Option ContentParts
note_of (a_content c) = if_note c c.note
note_of (a_correction k) = None

-- the contents of a set that are notes
abbrev pub notes_of : List Op → List ContentParts
notes_of ops = filter_map note_of ops

-- what a note names
abbrev pub named_by : Option Note → List (List ℕ)
named_by None = []
named_by (Some note) = note.covers

abbrev pub named_in : ContentParts → List (List ℕ)
named_in c = named_by c.note

-- what some notes name, ascending, each once
abbrev pub covered_uids : List ContentParts → List (List ℕ)
covered_uids notes = ascending (flat_map named_in notes)

-- whether a note names a UID
abbrev pub is_naming : List ℕ → ContentParts → Bool
is_naming uid c = is_among (named_in c) uid

-- the SOP Instance UIDs of the notes that name a UID, ascending, each once
abbrev pub naming : List ℕ → List ContentParts → List (List ℕ)
naming uid notes = ascending (map (λ c. c.instance) (filter (is_naming uid) notes))

-- whether one of them names it under a title
abbrev pub is_titled : List ℕ → List ContentParts → NoteTitle → Bool
is_titled uid notes title = list_any (λ c. names_under title uid c.note) notes

abbrev pub code_under : List ℕ → List ContentParts → NoteTitle → List (List ℕ)
code_under uid notes title = if is_titled uid notes title then decimal (code_of title) ∷ [] else []

-- the codes of the titles under which they name it, ascending
abbrev pub codes : List ℕ → List ContentParts → List (List ℕ)
codes uid notes =
    code_under uid notes Quality ++ (code_under uid notes Safety ++ (code_under uid notes Worklist
    ++ code_under uid notes Expired))

-- the UID, and parted by spaces the codes of the titles and the notes
abbrev pub rejected_row : List ContentParts → List ℕ → List (List ℕ)
rejected_row notes uid = uid ∷ join_with_byte 32 (codes uid notes) ∷ join_with_byte 32 (naming uid notes) ∷ []

-- a note, under each UID that it names
abbrev pub named_pairs : ContentParts → List (List ℕ × ContentParts)
named_pairs c = map (λ u. (u, c)) (named_in c)

-- the row of a UID, by the notes that lie under it
abbrev pub row_by : List (Under ContentParts) → List ℕ → List (List ℕ)
row_by entries uid = rejected_row (held_under uid (pairs entries)) uid

-- the rows of all UIDs that some notes name
abbrev pub rows_named : List ContentParts → List (List (List ℕ))
rows_named notes = map (rejected_row notes) (covered_uids notes)

-- the rows of all UIDs that notes of a set name
abbrev pub rejected_rows : List Op → List (List (List ℕ))
rejected_rows ops = rows_named (notes_of ops)
