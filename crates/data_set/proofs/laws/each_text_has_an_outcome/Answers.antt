use Rattle.data_set.proofs.Outcomes.{has_outcome}
use Rattle.data_set.proofs.laws.each_text_has_an_outcome.Goals as goal

-- Each step of the grammar has a value or a fault, and what it leaves is shorter.
pub returns : goal.returns
returns c = has_outcome
