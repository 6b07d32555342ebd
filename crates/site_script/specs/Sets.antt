-- The data sets that the lines of a script make, in the implicit syntax
-- (docs/DECISIONS.md, "The contents of a script").
use Rattle.std.specs.Prelude.{ℕ, List, [], ◌∷◌, ◌++◌, length, Option, Some, None, Result, Ok, Err, nat_lt, map, codes}
use Rattle.std.specs.Prelude.{if◌then◌else◌}
use Rattle.dictionary.specs.declared.elements.TheConstants.{CODE_VALUE, CODING_SCHEME_DESIGNATOR}
use Rattle.dictionary.specs.declared.elements.TheConstants.{CONCEPT_NAME_CODE_SEQUENCE}
use Rattle.dictionary.specs.declared.elements.TheConstants.{CURRENT_REQUESTED_PROCEDURE_EVIDENCE_SEQUENCE, MODALITY}
use Rattle.dictionary.specs.declared.elements.TheConstants.{PATIENT_ID, PATIENT_NAME, REFERENCED_SERIES_SEQUENCE}
use Rattle.dictionary.specs.declared.elements.TheConstants.{REFERENCED_SOP_INSTANCE_UID, REFERENCED_SOP_SEQUENCE}
use Rattle.dictionary.specs.declared.elements.TheConstants.{SERIES_INSTANCE_UID, SOP_CLASS_UID, SOP_INSTANCE_UID}
use Rattle.dictionary.specs.declared.elements.TheConstants.{STUDY_INSTANCE_UID}
use Rattle.dictionary.specs.Elements.{vr_in_table}
use Rattle.dictionary.specs.declared.uids.TheConstants.{CT_IMAGE_STORAGE, KEY_OBJECT_SELECTION_DOCUMENT_STORAGE}
use Rattle.dictionary.specs.declared.titles.TheConstants.{CODING_SCHEME_DCM}
use Rattle.data_set.specs.declared.syntax.Syntax.TheVariants.{Implicit}
use Rattle.data_set.specs.Tree.{Tree, leaf, node, rows_of}
use Rattle.data_set.specs.Values.{padded}
use Rattle.data_set.specs.Written.{text_of}
use Rattle.rejection_note.specs.declared.fault.NoteFault.{NoteFault}
use Rattle.rejection_note.specs.declared.note.Note.{Note}
use Rattle.rejection_note.specs.Notes.{note_in}
use Rattle.operation.specs.declared.draft.Draft.{Draft}
use Rattle.operation.specs.declared.fault.OpFault.{OpFault}
use Rattle.operation.specs.declared.fault.OpFault.TheVariants.{TooLong}
use Rattle.operation.specs.Drafts.{digest_of_draft}
use Rattle.operation.specs.Parts.{ContentParts}
use Rattle.operation.specs.Contents.{longest, drafted, offence, values_in}
use Rattle.site_script.specs.declared.key.Key.{Key}
use Rattle.site_script.specs.declared.command.ImageLine.{ImageLine}
use Rattle.site_script.specs.declared.command.NoteLine.{NoteLine}

-- an element that holds a value, padded to even length as its value representation asks
abbrev pub valued : ℕ → List ℕ → Tree
valued tag value = leaf tag None (padded (vr_in_table tag) value)

-- a sequence of these items
abbrev pub sequence : ℕ → List (List Tree) → Tree
sequence tag items = node tag None (rows_of items)

-- (0008,0016) SOP Class UID, (0008,0018) SOP Instance UID, (0008,0060) Modality
abbrev pub sop_elements : List ℕ → List ℕ → List ℕ → List Tree
sop_elements class instance modality =
    valued SOP_CLASS_UID class ∷ valued SOP_INSTANCE_UID instance ∷ valued MODALITY modality ∷ []

-- (0010,0010) Patient's Name, (0010,0020) Patient ID
abbrev pub patient_elements : List ℕ → List ℕ → List Tree
patient_elements name patient = valued PATIENT_NAME name ∷ valued PATIENT_ID patient ∷ []

-- (0020,000D) Study Instance UID, (0020,000E) Series Instance UID
abbrev pub study_elements : List ℕ → List ℕ → List Tree
study_elements study series = valued STUDY_INSTANCE_UID study ∷ valued SERIES_INSTANCE_UID series ∷ []

-- an image
unfoldable pub image_elements : ImageLine → List Tree
image_elements line =
    sop_elements CT_IMAGE_STORAGE line.instance (codes "CT") ++ (patient_elements line.name line.patient
    ++ study_elements line.study line.series)

-- the series of a note
abbrev pub note_series : NoteLine → List ℕ
note_series line = line.note ++ codes ".0"

-- (0040,A043) Concept Name Code Sequence: one item, with the code value and the coding scheme designator of the title
abbrev pub title_sequence : List ℕ → Tree
title_sequence title = sequence CONCEPT_NAME_CODE_SEQUENCE
    ((valued CODE_VALUE title ∷ valued CODING_SCHEME_DESIGNATOR CODING_SCHEME_DCM ∷ []) ∷ [])

-- an item that names an instance, by (0008,1155) Referenced SOP Instance UID
abbrev pub named : List ℕ → List Tree
named uid = valued REFERENCED_SOP_INSTANCE_UID uid ∷ []

-- (0008,1199) Referenced SOP Sequence
abbrev pub images_sequence : List (List ℕ) → Tree
images_sequence uids = sequence REFERENCED_SOP_SEQUENCE (map named uids)

-- (0008,1115) Referenced Series Sequence: one item
abbrev pub series_sequence : List (List ℕ) → List ℕ → Tree
series_sequence uids series = sequence REFERENCED_SERIES_SEQUENCE
    ((images_sequence uids ∷ valued SERIES_INSTANCE_UID series ∷ []) ∷ [])

-- (0040,A375) Current Requested Procedure Evidence Sequence: one item
abbrev pub evidence_sequence : List (List ℕ) → List ℕ → List ℕ → Tree
evidence_sequence uids series study = sequence CURRENT_REQUESTED_PROCEDURE_EVIDENCE_SEQUENCE
    ((series_sequence uids series ∷ valued STUDY_INSTANCE_UID study ∷ []) ∷ [])

-- a note (PS3.3, C.17.6)
unfoldable pub note_elements : NoteLine → List Tree
note_elements line =
    sop_elements KEY_OBJECT_SELECTION_DOCUMENT_STORAGE line.note (codes "KO")
    ++ (study_elements line.study (note_series line)
    ++ (title_sequence line.title ∷ evidence_sequence line.covers (note_series line) line.study ∷ []))

-- ---- the contents that they make

abbrev pub said : Result (Option Note) NoteFault → Option Note
said (Ok note) = note
said (Err fault) = None

abbrev pub unless : Option OpFault → Draft → List Tree → Result ContentParts OpFault
unless (Some fault) draft elements = Err fault
unless None draft elements =
    Ok (record {
      digest = digest_of_draft draft;
      class = draft.class;
      instance = draft.instance;
      syntax = draft.syntax;
      body = draft.body;
      values =
          values_in elements;
      note = said (note_in draft.class elements);
    })

-- the content of a draft whose data set spells these elements, or the fault of the draft
abbrev pub content_from : Draft → List Tree → Result ContentParts OpFault
content_from draft elements = if nat_lt longest (length draft.body) then Err TooLong else unless
    (offence draft elements) draft elements

abbrev pub made_of : List ℕ → List ℕ → List Tree → Result ContentParts OpFault
made_of class instance elements = content_from (drafted class instance Implicit (text_of elements)) elements

-- what an `image` line makes
unfoldable pub image_made : ImageLine → Result ContentParts OpFault
image_made line = made_of CT_IMAGE_STORAGE line.instance (image_elements line)

-- what a `note` line makes
unfoldable pub note_made : NoteLine → Result ContentParts OpFault
note_made line = made_of KEY_OBJECT_SELECTION_DOCUMENT_STORAGE line.note (note_elements line)

-- ---- the identifier of a query

abbrev pub key_element : Key → Tree
key_element key = leaf key.tag None key.value

-- the identifier of a query, by its keys
unfoldable pub identifier : List Key → List Tree
identifier keys = map key_element keys
