use Rattle.operation.proofs.ExistenceLaws.{has_outcome}
use Rattle.operation.proofs.laws.each_text_has_an_outcome.Goals as goal

-- A kind is one of three or unknown; a draft's data set has an outcome, and then each test passes or is its fault.
pub returns : goal.returns
returns c = has_outcome
