use Rattle.std.proofs.Common.{Ok, Err, subst, sym}
use Rattle.site_world.specs.Steps.{IsTaken, taken_by}
use Rattle.site_world.proofs.Takings.{taken_at}
use Rattle.site_world.proofs.world.take.Goals as goal

-- The site took the operation, new or known: it holds what it held, with this operation.
pub returns-in-Ok : goal.returns-in-Ok
returns-in-Ok c = taken_at c.args.site.now c.take.new.self c.args.op (Ok c.in-Ok.taken) c.in-Ok.ensures.takes

-- The site refused the operation, and stays as it was; its fault is told in the world's words.
pub returns-in-Err : goal.returns-in-Err
returns-in-Err c =
    subst (λ f. IsTaken c.args.site.now c.args.op (taken_by c.args.site.now c.args.op) (Err f) c.take.new.self) (sym
    c.fault_of.ensures)
    (taken_at c.args.site.now c.take.new.self c.args.op (Err c.in-Err.fault) c.in-Err.ensures.takes)
