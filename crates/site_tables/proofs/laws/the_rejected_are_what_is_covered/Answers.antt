use Rattle.site_tables.proofs.RejectedLaws.{rejected_are_covered}
use Rattle.site_tables.proofs.laws.the_rejected_are_what_is_covered.Goals as goal

-- A UID that a note names is covered in ARCHIVE, where each title hides, and the other way round.
pub returns : goal.returns
returns c = rejected_are_covered
