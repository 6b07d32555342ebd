use Rattle.head_log.proofs.Walking.{no_more}
use Rattle.head_log.proofs.laws.no_group_is_read_behind_the_last.Goals as goal

pub returns : goal.returns
returns c file gate end groups laid low = no_more file gate end groups laid low
