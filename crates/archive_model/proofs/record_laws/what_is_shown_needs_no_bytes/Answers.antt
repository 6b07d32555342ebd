use Rattle.archive_model.proofs.Alike.{same_covered, same_shown}
use Rattle.archive_model.proofs.record_laws.what_is_shown_needs_no_bytes.Goals as goal

-- The note is kept.
pub returns-clause-covered : goal.returns-clause-covered
returns-clause-covered c = same_covered

-- The picks are kept alike, and the same UIDs are covered.
pub returns-clause-shown : goal.returns-clause-shown
returns-clause-shown c = same_shown
