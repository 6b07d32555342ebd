use Rattle.operation.proofs.OutcomeLaws.{spelling_once}
use Rattle.operation.proofs.laws.spellings_tell_operations_apart.Goals as goal

-- Each is what its spelling is read as, and a text has one reading.
pub returns : goal.returns
returns c = spelling_once
