-- What a data set says as a rejection note (PS3.3, C.17.6.2; PS3.16, CID 7010; IHE RAD-66).
use Rattle.std.specs.Prelude.{ℕ, List, [], ◌∷◌, Bool, true, false, not, ◌||◌, Option, Some, None, Result, Ok, Err}
use Rattle.std.specs.Prelude.{unwrap_or, if◌then◌else◌}
use Rattle.std.specs.List.{filter_map, flat_map, list_all}
use Rattle.dictionary.specs.declared.elements.TheConstants.{CODE_VALUE, CODING_SCHEME_DESIGNATOR}
use Rattle.dictionary.specs.declared.elements.TheConstants.{CONCEPT_NAME_CODE_SEQUENCE}
use Rattle.dictionary.specs.declared.elements.TheConstants.{CURRENT_REQUESTED_PROCEDURE_EVIDENCE_SEQUENCE}
use Rattle.dictionary.specs.declared.elements.TheConstants.{REFERENCED_SERIES_SEQUENCE, REFERENCED_SOP_INSTANCE_UID}
use Rattle.dictionary.specs.declared.elements.TheConstants.{REFERENCED_SOP_SEQUENCE}
use Rattle.dictionary.specs.declared.uids.TheConstants.{KEY_OBJECT_SELECTION_DOCUMENT_STORAGE}
use Rattle.dictionary.specs.declared.titles.TheConstants.{CODING_SCHEME_DCM, DATA_RETENTION_POLICY_EXPIRED}
use Rattle.dictionary.specs.declared.titles.TheConstants.{INCORRECT_MODALITY_WORKLIST_ENTRY}
use Rattle.dictionary.specs.declared.titles.TheConstants.{REJECTED_FOR_PATIENT_SAFETY_REASONS}
use Rattle.dictionary.specs.declared.titles.TheConstants.{REJECTED_FOR_QUALITY_REASONS}
use Rattle.data_set.specs.Tree.{Tree}
use Rattle.octets.specs.Uid.{is_uid_text}
use Rattle.data_set.specs.Values.{value_in, items_in}
use Rattle.rejection_note.specs.declared.fault.NoteFault.{NoteFault}
use Rattle.rejection_note.specs.declared.fault.NoteFault.TheVariants.{NoTitle, NoReference}
use Rattle.rejection_note.specs.declared.note.Note.{Note}
use Rattle.rejection_note.specs.declared.title.NoteTitle.{NoteTitle}
use Rattle.rejection_note.specs.declared.title.NoteTitle.TheVariants.{Quality, Safety, Worklist, Expired}
use Rattle.octets.specs.Texts.{same, ascending}

-- ---- which documents are rejection notes

-- the title with this code value in the coding scheme DCM (PS3.16, CID 7010)
abbrev pub title_of : List ℕ → Option NoteTitle
title_of code =
    if same code REJECTED_FOR_QUALITY_REASONS then Some Quality
    else if same code REJECTED_FOR_PATIENT_SAFETY_REASONS then Some Safety
    else if same code INCORRECT_MODALITY_WORKLIST_ENTRY then Some Worklist
    else if same code DATA_RETENTION_POLICY_EXPIRED then Some Expired
    else None

abbrev pub is_dcm : Option (List ℕ) → Bool
is_dcm None = false
is_dcm (Some scheme) = same scheme CODING_SCHEME_DCM

abbrev pub title_of_code : Option (List ℕ) → Option NoteTitle
title_of_code None = None
title_of_code (Some code) = title_of code

-- the rejection title that an item of (0040,A043) names by Code Value (0008,0100) and Coding Scheme Designator
-- (0008,0102)
abbrev pub title_in : List Tree → Option NoteTitle
title_in item =
    if is_dcm (value_in CODING_SCHEME_DESIGNATOR item) then title_of_code (value_in CODE_VALUE item) else None

-- ---- what they name

-- the items of a sequence, of which there are none where it is missing or holds a value
abbrev pub sequence : ℕ → List Tree → List (List Tree)
sequence tag elements = unwrap_or (items_in tag elements) []

-- the Referenced SOP Instance UIDs (0008,1155) of the items of (0008,1199)
abbrev pub named_by_images : List (List Tree) → List (List ℕ)
named_by_images items = filter_map (value_in REFERENCED_SOP_INSTANCE_UID) items

-- those under the items of (0008,1115)
abbrev pub named_by_series : List (List Tree) → List (List ℕ)
named_by_series items = flat_map (λ item. named_by_images (sequence REFERENCED_SOP_SEQUENCE item)) items

-- those under the items of (0040,A375)
abbrev pub named_by_studies : List (List Tree) → List (List ℕ)
named_by_studies items = flat_map (λ item. named_by_series (sequence REFERENCED_SERIES_SEQUENCE item)) items

-- all that a document names
abbrev pub named : List Tree → List (List ℕ)
named elements = named_by_studies (sequence CURRENT_REQUESTED_PROCEDURE_EVIDENCE_SEQUENCE elements)

-- ---- the note

abbrev pub is_none : {X : Type 0} → List X → Bool
is_none [] = true
is_none (x ∷ xs) = false

-- a document of a rejection title names something, and by UIDs alone
abbrev pub note_of_title : Option NoteTitle → List (List ℕ) → Result (Option Note) NoteFault
note_of_title None uids = Ok None
note_of_title (Some title) uids =
    if is_none uids || not (list_all is_uid_text uids) then Err NoReference
    else Ok (Some (record { title = title; covers = ascending uids }))

-- the title stands in the first item
abbrev pub note_of_items : List (List Tree) → List (List ℕ) → Result (Option Note) NoteFault
note_of_items [] uids = Err NoTitle
note_of_items (item ∷ items) uids = note_of_title (title_in item) uids

-- the note that a data set of this class is, if it is one
unfoldable pub note_in : List ℕ → List Tree → Result (Option Note) NoteFault
note_in class elements =
    if same class KEY_OBJECT_SELECTION_DOCUMENT_STORAGE then note_of_items (sequence CONCEPT_NAME_CODE_SEQUENCE
    elements) (named elements)
    else Ok None
