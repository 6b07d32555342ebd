use Rattle.head_log.proofs.Walking.{in_order}
use Rattle.head_log.proofs.laws.groups_are_read_in_order.Goals as goal

pub returns : goal.returns
returns c file gate end groups group laid low it = in_order file gate end groups group laid low it
