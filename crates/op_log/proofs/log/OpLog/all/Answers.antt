use Rattle.std.proofs.Common.{IsTrue, Contains, subst}
use Rattle.std.proofs.lemmas.Result.{IfOk-weaker}
use Rattle.operation.specs.declared.op.Op.{Op}
use Rattle.operation.specs.Reading.{IsOp}
use Rattle.op_log.specs.Kept.{Has}
use Rattle.op_log.specs.Loaded.{Lists}
use Rattle.op_log.specs.Log.{Opened}
use Rattle.op_log.proofs.Lists.{listed}
use Rattle.op_log.proofs.log.OpLog.all.Goals as goal

-- What is there is listed.
pub returns-clause-exact : goal.returns-clause-exact
returns-clause-exact g c =
    let old = c.args.self.now in
    IfOk-weaker c.all_ops.result _
    (λ ops. IsTrue (g.B.Disk.is_clean c.all_ops.new.bodies.disk) → (op : Op) → IsOp op
    → Has g.B.Disk old.bodies old.bodies_end old.places op → Contains ops.items op)
    (λ ops all clean op lawful has.
    let lists = subst (λ (o : Opened g.row.H.Denot g.row.B.Denot). Lists (g.B.Disk.seen o.bodies) o.places ops.items) c.self.view_is (all clean) in
    listed (g.B.Disk.seen old.bodies) old.places ops.items has.0 op lawful lists has.1 (λ some. (has.2 some).0))
    c.all_ops.ensures.all
