use Rattle.archive_model.proofs.ModelLaws.{shown_are_picks}
use Rattle.archive_model.proofs.laws.what_is_shown_is_picked_and_uncovered.Goals as goal

-- The UIDs of contents were passed one by one through both tests.
pub returns : goal.returns
returns c = shown_are_picks
