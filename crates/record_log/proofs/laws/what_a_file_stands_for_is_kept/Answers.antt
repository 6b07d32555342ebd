use Rattle.std.proofs.Common.{inr, refl, arith, []}
use Rattle.record_log.proofs.Keeping.{opened, stands}
use Rattle.record_log.proofs.laws.what_a_file_stands_for_is_kept.Goals as goal

-- Whatever a crash leaves has the groups.
pub returns-clause-left : goal.returns-clause-left
returns-clause-left g c disk end cs kept file may = stands g.D.Disk disk end cs file kept may

pub returns-clause-opened : goal.returns-clause-opened
returns-clause-opened g c file disk end cs ready held = opened g.D.Disk file disk end cs ready held

-- No byte is no group.
pub returns-clause-none : goal.returns-clause-none
returns-clause-none g c = record { groups = []; are = refl; laid = inr (omega arith, refl); told = tt }
