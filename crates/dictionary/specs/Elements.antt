-- The elements of data sets that this archive knows (PS3.6, 6), each with its constant, its tag, its value
-- representation and its role.
use Rattle.std.specs.Prelude.{ℕ, List, [], ◌∷◌, ◌==◌, if◌then◌else◌, codes, map, Option, Some, Bool, true, ◌&&◌}
use Rattle.dictionary.specs.declared.elements.TheConstants.{SPECIFIC_CHARACTER_SET, SOP_CLASS_UID, SOP_INSTANCE_UID}
use Rattle.dictionary.specs.declared.elements.TheConstants.{STUDY_DATE, STUDY_TIME, ACCESSION_NUMBER}
use Rattle.dictionary.specs.declared.elements.TheConstants.{QUERY_RETRIEVE_LEVEL, RETRIEVE_AE_TITLE, MODALITY}
use Rattle.dictionary.specs.declared.elements.TheConstants.{MODALITIES_IN_STUDY, REFERRING_PHYSICIAN_NAME, CODE_VALUE}
use Rattle.dictionary.specs.declared.elements.TheConstants.{FAILED_SOP_INSTANCE_UID_LIST}
use Rattle.dictionary.specs.declared.elements.TheConstants.{CODING_SCHEME_DESIGNATOR, STUDY_DESCRIPTION}
use Rattle.dictionary.specs.declared.elements.TheConstants.{SERIES_DESCRIPTION, REFERENCED_SERIES_SEQUENCE}
use Rattle.dictionary.specs.declared.elements.TheConstants.{REFERENCED_SOP_INSTANCE_UID, REFERENCED_SOP_SEQUENCE}
use Rattle.dictionary.specs.declared.elements.TheConstants.{PATIENT_NAME, PATIENT_ID, PATIENT_BIRTH_DATE, PATIENT_SEX}
use Rattle.dictionary.specs.declared.elements.TheConstants.{STUDY_INSTANCE_UID, SERIES_INSTANCE_UID, STUDY_ID}
use Rattle.dictionary.specs.declared.elements.TheConstants.{SERIES_NUMBER, INSTANCE_NUMBER}
use Rattle.dictionary.specs.declared.elements.TheConstants.{NUMBER_OF_STUDY_RELATED_SERIES}
use Rattle.dictionary.specs.declared.elements.TheConstants.{NUMBER_OF_STUDY_RELATED_INSTANCES}
use Rattle.dictionary.specs.declared.elements.TheConstants.{NUMBER_OF_SERIES_RELATED_INSTANCES}
use Rattle.dictionary.specs.declared.elements.TheConstants.{CONCEPT_NAME_CODE_SEQUENCE}
use Rattle.dictionary.specs.declared.elements.TheConstants.{CURRENT_REQUESTED_PROCEDURE_EVIDENCE_SEQUENCE, PIXEL_DATA}
use Rattle.dictionary.specs.declared.elements.TheConstants.{ITEM, ITEM_DELIMITATION_ITEM, SEQUENCE_DELIMITATION_ITEM}
use Rattle.dictionary.specs.Tags.{is_above}
use Rattle.dictionary.specs.declared.role.Entity.TheVariants.{Patient, Study, Series, Instance}
use Rattle.dictionary.specs.declared.role.Matching.TheVariants.{Dates, Times, WildCard, Name, Uids, Single}
use Rattle.dictionary.specs.declared.role.Role.{Role}
use Rattle.dictionary.specs.declared.role.Role.TheVariants.{Plain, Kept, Counted, Key, Corrected}

-- the name of a tag in code, its number, its value representation, and what it is to this archive
pub record Line : Type 0 where
  pub name : ℕ
  pub tag : ℕ
  pub vr : List ℕ
  pub role : Role

abbrev pub line : ℕ → ℕ → List ℕ → Role → Line
line name tag vr role = record { name = name; tag = tag; vr = vr; role = role }

-- the standard's table, ascending: of each attribute all that this archive knows
abbrev pub table : List Line
table =
    line SPECIFIC_CHARACTER_SET 0x0008_0005 (codes "CS") Kept
    ∷ line SOP_CLASS_UID 0x0008_0016 (codes "UI") (Key Instance Uids)
    ∷ line SOP_INSTANCE_UID 0x0008_0018 (codes "UI") (Key Instance Uids)
    ∷ line STUDY_DATE 0x0008_0020 (codes "DA") (Corrected Study Dates)
    ∷ line STUDY_TIME 0x0008_0030 (codes "TM") (Corrected Study Times)
    ∷ line ACCESSION_NUMBER 0x0008_0050 (codes "SH") (Corrected Study WildCard)
    ∷ line QUERY_RETRIEVE_LEVEL 0x0008_0052 (codes "CS") Plain
    ∷ line RETRIEVE_AE_TITLE 0x0008_0054 (codes "AE") Plain
    ∷ line MODALITY 0x0008_0060 (codes "CS") (Key Series WildCard)
    ∷ line MODALITIES_IN_STUDY 0x0008_0061 (codes "CS") (Counted Study)
    ∷ line REFERRING_PHYSICIAN_NAME 0x0008_0090 (codes "PN") (Corrected Study WildCard)
    ∷ line CODE_VALUE 0x0008_0100 (codes "SH") Plain
    ∷ line CODING_SCHEME_DESIGNATOR 0x0008_0102 (codes "SH") Plain
    ∷ line STUDY_DESCRIPTION 0x0008_1030 (codes "LO") (Corrected Study WildCard)
    ∷ line SERIES_DESCRIPTION 0x0008_103e (codes "LO") (Corrected Series WildCard)
    ∷ line REFERENCED_SERIES_SEQUENCE 0x0008_1115 (codes "SQ") Plain
    ∷ line REFERENCED_SOP_INSTANCE_UID 0x0008_1155 (codes "UI") Plain
    ∷ line REFERENCED_SOP_SEQUENCE 0x0008_1199 (codes "SQ") Plain
    ∷ line PATIENT_NAME 0x0010_0010 (codes "PN") (Corrected Patient Name)
    ∷ line PATIENT_ID 0x0010_0020 (codes "LO") (Corrected Patient WildCard)
    ∷ line PATIENT_BIRTH_DATE 0x0010_0030 (codes "DA") (Corrected Patient Dates)
    ∷ line PATIENT_SEX 0x0010_0040 (codes "CS") (Corrected Patient WildCard)
    ∷ line STUDY_INSTANCE_UID 0x0020_000d (codes "UI") (Key Study Uids)
    ∷ line SERIES_INSTANCE_UID 0x0020_000e (codes "UI") (Key Series Uids)
    ∷ line STUDY_ID 0x0020_0010 (codes "SH") (Corrected Study WildCard)
    ∷ line SERIES_NUMBER 0x0020_0011 (codes "IS") (Key Series Single)
    ∷ line INSTANCE_NUMBER 0x0020_0013 (codes "IS") (Key Instance Single)
    ∷ line NUMBER_OF_STUDY_RELATED_SERIES 0x0020_1206 (codes "IS") (Counted Study)
    ∷ line NUMBER_OF_STUDY_RELATED_INSTANCES 0x0020_1208 (codes "IS") (Counted Study)
    ∷ line NUMBER_OF_SERIES_RELATED_INSTANCES 0x0020_1209 (codes "IS") (Counted Series)
    ∷ line CONCEPT_NAME_CODE_SEQUENCE 0x0040_a043 (codes "SQ") Plain
    ∷ line CURRENT_REQUESTED_PROCEDURE_EVIDENCE_SEQUENCE 0x0040_a375 (codes "SQ") Plain
    ∷ []

abbrev pub vr_among : ℕ → List Line → List ℕ
vr_among tag [] = codes "UN"
vr_among tag (line ∷ lines) = if tag == line.tag then line.vr else vr_among tag lines

-- the value representation of an element of the table, and UN, Unknown, of any other (PS3.5, 6.2.2)
unfoldable pub vr_in_table : ℕ → List ℕ
vr_in_table tag = vr_among tag table

abbrev pub role_among : ℕ → List Line → Role
role_among tag [] = Plain
role_among tag (line ∷ lines) = if tag == line.tag then line.role else role_among tag lines

-- what an attribute is to this archive
unfoldable pub role_in_table : ℕ → Role
role_in_table tag = role_among tag table

-- whether tags ascend, so that no line hides another
abbrev pub ascend : Option ℕ → List Line → Bool
ascend previous [] = true
ascend previous (line ∷ lines) = is_above previous line.tag && ascend (Some line.tag) lines

-- the names and the numbers of the table
abbrev pub tags : List (ℕ × ℕ)
tags = map (λ line. (line.name, line.tag)) table

-- (0008,0058), which only responses to a C-GET have; (7FE0,0010) Pixel Data, which has one of two value
-- representations; items and ends, which have none (PS3.5, 7.5)
abbrev pub other_tags : List (ℕ × ℕ)
other_tags =
    (FAILED_SOP_INSTANCE_UID_LIST, 0x0008_0058)
    ∷ (PIXEL_DATA, 0x7fe0_0010)
    ∷ (ITEM, 0xfffe_e000)
    ∷ (ITEM_DELIMITATION_ITEM, 0xfffe_e00d)
    ∷ (SEQUENCE_DELIMITATION_ITEM, 0xfffe_e0dd)
    ∷ []
