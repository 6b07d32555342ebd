use Rattle.data_set.proofs.Sets.{fault_or_spelled}
use Rattle.data_set.proofs.laws.no_fault_where_spelled.Goals as goal

-- A text comes to one outcome, and elements are no fault.
pub returns : goal.returns
returns c = fault_or_spelled
