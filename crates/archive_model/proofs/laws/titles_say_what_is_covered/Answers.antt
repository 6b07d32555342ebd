use Rattle.archive_model.proofs.ModelLaws.{covered_by_titles}
use Rattle.archive_model.proofs.laws.titles_say_what_is_covered.Goals as goal

-- A note that covers has a title that hides, and under it names the UID.
pub returns : goal.returns
returns c = covered_by_titles
