use Rattle.head_log.proofs.Shutting.{open_is, shut_is, zeros_are}
use Rattle.head_log.proofs.laws.gates_are_told_apart.Goals as goal

-- None of its bits is another.
pub returns-clause-shut : goal.returns-clause-shut
returns-clause-shut c = shut_is

-- All 64 are others.
pub returns-clause-opened : goal.returns-clause-opened
returns-clause-opened c = open_is

-- Half of them are.
pub returns-clause-zeros : goal.returns-clause-zeros
returns-clause-zeros c = zeros_are
