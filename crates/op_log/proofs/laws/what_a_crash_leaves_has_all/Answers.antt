use Rattle.op_log.proofs.Crashing.{comes_settled, leaves_all, leaves_log, leaves_log_of_own, leaves_old_or_all}
use Rattle.op_log.proofs.laws.what_a_crash_leaves_has_all.Goals as goal

-- a call spares what lasts
pub returns-clause-settled : goal.returns-clause-settled
returns-clause-settled g c = comes_settled g.H.Disk g.B.Disk

-- what lasts is there, and the heads are kept
pub returns-clause-all : goal.returns-clause-all
returns-clause-all g c = leaves_all g.H.Disk g.B.Disk

-- it has the groups that the file has, each head of which fits
pub returns-clause-of_log : goal.returns-clause-of_log
returns-clause-of_log g c = leaves_log g.H.Disk g.B.Disk (λ f. g.met.H.Disk.seen_may_stay f)

-- heads that have their own digests fit
pub returns-clause-own : goal.returns-clause-own
returns-clause-own g c = leaves_log_of_own g.H.Disk g.B.Disk

-- what lasted is spared
pub returns-clause-under_way : goal.returns-clause-under_way
returns-clause-under_way g c = leaves_old_or_all g.H.Disk g.B.Disk
