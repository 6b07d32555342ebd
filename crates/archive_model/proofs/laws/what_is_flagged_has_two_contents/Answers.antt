use Rattle.archive_model.proofs.ModelLaws.{flagged_have_two}
use Rattle.archive_model.proofs.laws.what_is_flagged_has_two_contents.Goals as goal

-- The flagged UIDs are those of the instances whose contents are more than one.
pub returns : goal.returns
returns c = flagged_have_two
