use Rattle.std.proofs.Common.{arith}
use Rattle.head_log.proofs.Laying.{ready_past}
use Rattle.head_log.proofs.adding.stage.Goals as goal

-- The write lies past the gate.
pub returns-in_err-write_at-clause-kept : goal.returns-in_err-write_at-clause-kept
returns-in_err-write_at-clause-kept g c gate groups place ready left may =
    let (before, was, torn) = c.write_at.ensures.crash left may in
    ready_past before left gate _ _ groups (omega (arith, place)) torn (ready before was)

pub returns-clause-kept : goal.returns-clause-kept
returns-clause-kept g c gate groups place ready left may =
    let (before, was, torn) = c.write_at.ensures.crash left (c.sync.ensures.crash left may) in
    ready_past before left gate _ _ groups (omega (arith, place)) torn (ready before was)
