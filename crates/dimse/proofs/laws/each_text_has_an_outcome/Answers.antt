use Rattle.dimse.proofs.TotalLaws.{has_outcome, comes_to_an_end}
use Rattle.dimse.proofs.laws.each_text_has_an_outcome.Goals as goal

-- Its elements are read one by one, and say a command or none.
pub returns-clause-command : goal.returns-clause-command
returns-clause-command c = has_outcome

-- Each fragment has an answer, so the fragments have a run.
pub returns-clause-fragments : goal.returns-clause-fragments
returns-clause-fragments c = comes_to_an_end
