use Rattle.operation.proofs.TagLaws.{patient_group}
use Rattle.operation.proofs.laws.a_patient_is_corrected_in_its_group_alone.Goals as goal

-- Of each line of the table that can be corrected, the entity and the group say the same.
pub returns : goal.returns
returns c = patient_group
