use Rattle.older_heads.proofs.Walking.{no_more}
use Rattle.older_heads.proofs.laws.no_group_is_read_behind_the_last.Goals as goal

pub returns : goal.returns
returns c file at end groups laid low = no_more file at end groups laid low
