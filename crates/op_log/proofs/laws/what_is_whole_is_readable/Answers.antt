use Rattle.op_log.proofs.Parted.{all_is_readable, each_is_parted, listed_are_amiss}
use Rattle.op_log.proofs.laws.what_is_whole_is_readable.Goals as goal

-- what is listed would be bad, or the disk failed
pub returns-clause-readable : goal.returns-clause-readable
returns-clause-readable c = all_is_readable

-- head by head
pub returns-clause-each : goal.returns-clause-each
returns-clause-each c = each_is_parted

-- each index that is listed
pub returns-clause-amiss : goal.returns-clause-amiss
returns-clause-amiss c = listed_are_amiss
