use Rattle.op_log.proofs.Mending.{last_counts, settled_own}
use Rattle.op_log.proofs.laws.the_last_head_of_a_digest_counts.Goals as goal

-- each comes in the place of an earlier one, or none has its digest
pub returns-clause-own : goal.returns-clause-own
returns-clause-own c = settled_own

-- it came in the place of the others
pub returns-clause-last : goal.returns-clause-last
returns-clause-last c = last_counts
