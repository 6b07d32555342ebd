-- Which corrections there are (docs/DECISIONS.md, "Corrections").
use Rattle.std.specs.Prelude.{ℕ, ◌<◌, ◌^◌, List, length, Bool, true, false, not, ◌&&◌, ◌||◌, ◌==◌, nat_le, Option, Some}
use Rattle.std.specs.Prelude.{None, Result, Ok, Err, IsTrue, slice_get, is_some, if◌then◌else◌, ◌-◌}
use Rattle.std.specs.List.{list_all}
use Rattle.dictionary.specs.declared.role.Entity.{Entity}
use Rattle.dictionary.specs.declared.role.Entity.TheVariants.{Patient as a_patient, Study as a_study}
use Rattle.dictionary.specs.declared.role.Entity.TheVariants.{Series as a_series, Instance as an_instance}
use Rattle.dictionary.specs.Elements.{role_in_table}
use Rattle.dictionary.specs.Roles.{correction_of}
use Rattle.data_set.specs.Corrections.{correction_vr_of}
use Rattle.octets.specs.Uid.{is_uid_text}
use Rattle.operation.specs.declared.fault.OpFault.{OpFault}
use Rattle.operation.specs.declared.fault.OpFault.TheVariants.{BadCorrection}
use Rattle.operation.specs.declared.target.Target.{Target}
use Rattle.operation.specs.declared.target.Target.TheVariants.{Study, Patient, Series}
use Rattle.operation.specs.Parts.{CorrectionParts}

-- The attributes that can be corrected are those whose value representation is known.
abbrev pub is_corrected : ℕ → Bool
is_corrected tag = is_some (correction_vr_of tag)

-- A study's correction is for an attribute of the study or of its patient, that of a patient or of a series for one of
-- its own.
abbrev pub is_entity_for : Target → Option Entity → Bool
is_entity_for target None = false
is_entity_for (Study key) (Some a_patient) = true
is_entity_for (Study key) (Some a_study) = true
is_entity_for (Study key) (Some a_series) = false
is_entity_for (Study key) (Some an_instance) = false
is_entity_for (Patient key) (Some a_patient) = true
is_entity_for (Patient key) (Some a_study) = false
is_entity_for (Patient key) (Some a_series) = false
is_entity_for (Patient key) (Some an_instance) = false
is_entity_for (Series key) (Some a_patient) = false
is_entity_for (Series key) (Some a_study) = false
is_entity_for (Series key) (Some a_series) = true
is_entity_for (Series key) (Some an_instance) = false

-- The table tells of which entity an attribute is that can be corrected.
abbrev pub is_tag_for : Target → ℕ → Bool
is_tag_for target tag = is_entity_for target (correction_of (role_in_table tag))

-- whether a target is a series
abbrev pub is_series : Target → Bool
is_series (Study key) = false
is_series (Patient key) = false
is_series (Series key) = true

-- printable ASCII without the backslash, which parts values (PS3.5, 6.2)
abbrev pub is_text_byte : ℕ → Bool
is_text_byte byte = nat_le 0x20 byte && nat_le byte 0x7e && not (byte == 0x5c)

abbrev pub is_space : Option ℕ → Bool
is_space None = false
is_space (Some byte) = byte == 0x20

abbrev pub has_outer_space : List ℕ → Bool
has_outer_space text = is_space (slice_get text 0) || is_space (slice_get text (length text - 1))

-- at most 64 such bytes, without outer spaces
unfoldable pub is_plain : List ℕ → Bool
is_plain text = nat_le (length text) 64 && list_all is_text_byte text && not (has_outer_space text)

-- The key of a study or a series is a UID, and a patient's a Patient ID that is not empty.
abbrev pub is_key : Target → Bool
is_key (Study key) = is_uid_text key
is_key (Patient key) = not (length key == 0) && is_plain key
is_key (Series key) = is_uid_text key

-- Counter and site are numbered from 1.
unfoldable pub is_correction : CorrectionParts → Bool
is_correction c =
    is_key c.target && is_tag_for c.target c.tag && is_plain c.value && nat_le 1 c.stamp.counter && nat_le 1
    c.stamp.site

-- a correction, or the fault that it is none
abbrev pub checked : CorrectionParts → Result CorrectionParts OpFault
checked c = if is_correction c then Ok c else Err BadCorrection

-- what a correction keeps true of its parts
pub record IsCorrection (correction : CorrectionParts) : Type 0 where
  pub lawful : IsTrue (is_correction correction)
  pub counter : correction.stamp.counter < 2 ^ 64
  pub site : correction.stamp.site < 2 ^ 16
