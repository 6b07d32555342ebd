use Rattle.older_heads.proofs.Walking.{in_order}
use Rattle.older_heads.proofs.laws.groups_are_read_in_order.Goals as goal

pub returns : goal.returns
returns c file at end groups group laid low it = in_order file at end groups group laid low it
