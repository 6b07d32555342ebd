use Rattle.data_set.proofs.Sets.{one_fault}
use Rattle.data_set.proofs.laws.one_fault.Goals as goal

-- A text comes to one outcome.
pub returns : goal.returns
returns c = one_fault
