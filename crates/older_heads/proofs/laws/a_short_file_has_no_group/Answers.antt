use Rattle.older_heads.proofs.Walking.{none_short}
use Rattle.older_heads.proofs.laws.a_short_file_has_no_group.Goals as goal

pub returns : goal.returns
returns c file groups stands short = none_short file groups stands short
