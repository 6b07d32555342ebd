use Rattle.archive_model.proofs.ModelLaws.{covered_is_named}
use Rattle.archive_model.proofs.laws.what_a_note_names_is_covered.Goals as goal

-- Some content passes the test, and that is a note that names the UID.
pub returns : goal.returns
returns c = covered_is_named
