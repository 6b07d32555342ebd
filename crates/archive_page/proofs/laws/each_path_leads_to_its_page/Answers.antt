use Rattle.archive_page.proofs.PathLaws.{leads}
use Rattle.archive_page.proofs.laws.each_path_leads_to_its_page.Goals as goal

-- Each of ten is the first path that is the same as itself, and the two of a study are none and begin as one does.
pub returns : goal.returns
returns c = leads
