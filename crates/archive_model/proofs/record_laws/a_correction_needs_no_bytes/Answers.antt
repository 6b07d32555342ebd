use Rattle.archive_model.proofs.Alike.{same_attributes}
use Rattle.archive_model.proofs.record_laws.a_correction_needs_no_bytes.Goals as goal

-- A correction is kept whole, and so are the keys of its targets.
pub returns : goal.returns
returns c = same_attributes
