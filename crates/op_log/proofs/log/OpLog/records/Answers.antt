use Rattle.std.proofs.Common.{IsTrue, Contains, subst}
use Rattle.std.proofs.lemmas.Result.{IfOk-weaker}
use Rattle.operation.specs.declared.op.Op.{Op}
use Rattle.operation.specs.Reading.{IsOp}
use Rattle.records.specs.StandIn.{op_in}
use Rattle.op_log.specs.Kept.{Has}
use Rattle.op_log.specs.Recorded.{Records}
use Rattle.op_log.specs.Log.{Opened}
use Rattle.op_log.proofs.Recordings.{recorded_of}
use Rattle.op_log.proofs.log.OpLog.records.Goals as goal

-- What is there is recorded.
pub returns-clause-exact : goal.returns-clause-exact
returns-clause-exact g c =
    let old = c.args.self.now in
    IfOk-weaker c.all_records.result _
    (λ recorded. IsTrue (g.B.Disk.is_clean c.all_records.new.bodies.disk) → (op : Op) → IsOp op
    → Has g.B.Disk old.bodies old.bodies_end old.places op → Contains recorded.items (op_in op))
    (λ recorded all clean op lawful has.
    let lists = subst (λ (o : Opened g.row.H.Denot g.row.B.Denot). Records (g.B.Disk.seen o.bodies) o.places recorded.items) c.self.view_is (all clean) in
    recorded_of (g.B.Disk.seen old.bodies) old.places recorded.items has.0 op lawful lists has.1 (λ some. (has.2 some).0))
    c.all_records.ensures.all
