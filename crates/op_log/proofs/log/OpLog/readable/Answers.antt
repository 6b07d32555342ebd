use Rattle.std.proofs.Common.{◌≡◌, [], List, IsTrue, subst}
use Rattle.std.proofs.lemmas.Result.{IfOk-weaker}
use Rattle.sqlite_disk.specs.Disk.{MoreFaults}
use Rattle.operation.specs.declared.op.Op.{Op}
use Rattle.op_log.specs.Loaded.{Lists}
use Rattle.op_log.specs.Log.{Opened}
use Rattle.op_log.specs.Readable.{AreParted, IsAmiss}
use Rattle.op_log.specs.Recorded.{AreRecordedAs, IsRecordedAs}
use Rattle.op_log.proofs.Parted.{all_is_readable}
use Rattle.op_log.proofs.log.OpLog.readable.Goals as goal

-- The file of a log reaches to each data set.
pub returns-clause-all : goal.returns-clause-all
returns-clause-all g c =
    let old = c.args.self.now in
    let told = c.args.told.now in
    let fails = g.B.Disk.faults c.all_readable.new.bodies.disk in
    IfOk-weaker c.all_readable.result _
    (λ readable. IsTrue (g.B.Disk.is_clean c.all_readable.new.bodies.disk)
    → AreParted (IsRecordedAs (g.B.Disk.seen old.bodies) told) (IsAmiss (g.B.Disk.seen old.bodies) (g.B.Disk.faults old.bodies) fails) 0
    old.places readable.recorded.items readable.unreadable.items)
    (λ readable all clean.
    subst (λ (o : Opened g.row.H.Denot g.row.B.Denot). AreParted (IsRecordedAs (g.B.Disk.seen o.bodies) told)
    (IsAmiss (g.B.Disk.seen o.bodies) (g.B.Disk.faults o.bodies) fails) 0 o.places readable.recorded.items readable.unreadable.items)
    c.self.view_is (all clean (record { below = c.self.invariant.below; reach = c.self.invariant.reach })))
    c.all_readable.ensures.all

-- Where the file has each operation, none is listed.
pub returns-clause-none : goal.returns-clause-none
returns-clause-none g c =
    let old = c.args.self.now in
    let told = c.args.told.now in
    let file = g.B.Disk.seen old.bodies in
    let failed = g.B.Disk.faults old.bodies in
    let fails = g.B.Disk.faults c.all_readable.new.bodies.disk in
    IfOk-weaker c.all_readable.result _
    (λ readable. IsTrue (g.B.Disk.is_clean c.all_readable.new.bodies.disk) → (MoreFaults failed fails → ⊥) → (ops : List Op)
    → Lists file old.places ops
    → (readable.unreadable.items ≡ []) × AreRecordedAs file told old.places readable.recorded.items)
    (λ readable all clean calm ops lists.
    let parted = subst (λ (o : Opened g.row.H.Denot g.row.B.Denot). AreParted (IsRecordedAs (g.B.Disk.seen o.bodies) told)
    (IsAmiss (g.B.Disk.seen o.bodies) (g.B.Disk.faults o.bodies) fails) 0 o.places readable.recorded.items readable.unreadable.items)
    c.self.view_is (all clean (record { below = c.self.invariant.below; reach = c.self.invariant.reach })) in
    all_is_readable file told old.places readable.recorded.items ops readable.unreadable.items failed fails parted lists calm)
    c.all_readable.ensures.all
