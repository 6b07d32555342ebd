use Rattle.std.proofs.Common.{◌≡◌, ◌⊎◌, List, IsTrue, Err, inr, true, false, sym, subst, ap, ◌∙◌, arith}
use Rattle.sqlite_disk.specs.Disk.{MoreFaults}
use Rattle.body_log.specs.Log.{disk_of, end_of}
use Rattle.head_log.specs.Log.{disk_of as heads_of, gate_of as heads_end}
use Rattle.op_log.specs.declared.fault.LogFault.TheVariants.{Closed, Collision, Disk, TooLong}
use Rattle.op_log.specs.Heads.{Head}
use Rattle.op_log.specs.Kept.{IsKept}
use Rattle.op_log.specs.Log.{GoesOn, IsSound, IsTooLong, Opened, opened}
use Rattle.op_log.specs.Puts.{ComesToClash, LeavesAllOrNone, PutsAll}
use Rattle.op_log.proofs.Going.{goes_nowhere, goes_on, leaves_none, sound_on, still_below}
use Rattle.op_log.proofs.Settling.{put_back}
use Rattle.op_log.proofs.log.OpLog.put_many.Goals as goal

-- A closed log stays as it was.
pub returns-then-not-is_open-clause-crash : goal.returns-then-not-is_open-clause-crash
returns-then-not-is_open-clause-crash g c kept =
    let old = c.args.self.now in
    leaves_none g.H.Disk g.B.Disk old.heads old.heads_end old.bodies old.bodies_end old.places c.args.ops.now kept

-- And it goes on as it was.
pub returns-then-not-is_open-clause-goes_on : goal.returns-then-not-is_open-clause-goes_on
returns-then-not-is_open-clause-goes_on g c =
    goes_nowhere g.H.Disk g.B.Disk c.args.self.now
    (subst (λ (o : Opened g.row.H.Denot g.row.B.Denot). IsSound g.H.Disk g.B.Disk o) c.self.view_is c.self.invariant)

-- So does one that is to put too many.
pub returns-then-ops-gt-MOST_OF_A_GROUP-clause-crash : goal.returns-then-ops-gt-MOST_OF_A_GROUP-clause-crash
returns-then-ops-gt-MOST_OF_A_GROUP-clause-crash g c kept =
    let old = c.args.self.now in
    leaves_none g.H.Disk g.B.Disk old.heads old.heads_end old.bodies old.bodies_end old.places c.args.ops.now kept

-- And it goes on as it was.
pub returns-then-ops-gt-MOST_OF_A_GROUP-clause-goes_on : goal.returns-then-ops-gt-MOST_OF_A_GROUP-clause-goes_on
returns-then-ops-gt-MOST_OF_A_GROUP-clause-goes_on g c =
    goes_nowhere g.H.Disk g.B.Disk c.args.self.now
    (subst (λ (o : Opened g.row.H.Denot g.row.B.Denot). IsSound g.H.Disk g.B.Disk o) c.self.view_is c.self.invariant)

-- The data sets lie below the end, and the heads are there.
pub put_group-requires : goal.put_group-requires
put_group-requires g c = record { below = c.self.invariant.below; reach = c.self.invariant.reach; begun = c.new-group.ensures }

-- A put keeps the log sound.
pub invariant_of-self : goal.invariant_of-self
invariant_of-self g c =
    let old = c.self.inside in
    let new = c.put_group.new in
    let was = subst (λ (o : Opened g.row.H.Denot g.row.B.Denot). IsTrue o.is_open) (sym c.self.view_is)
    (sym c.is_open.ensures ∙ c.if-not-is_open.false) in
    sound_on g.H.Disk g.B.Disk old.heads new.heads old.bodies new.bodies old.places new.places c.self.invariant was
    c.in-Ok.ensures.grows c.in-Ok.ensures.places.below (λ up. c.in-Ok.ensures.kept) c.in-Ok.ensures.clean

-- A refusal forgets the heads in memory.
pub invariant_of-self-in-Err-1 : goal.invariant_of-self-in-Err-1
invariant_of-self-in-Err-1 g c =
    let old = c.self.inside in
    let new = c.put_group.new in
    let them = c.restore.new.self in
    let was = subst (λ (o : Opened g.row.H.Denot g.row.B.Denot). IsTrue o.is_open) (sym c.self.view_is)
    (sym c.is_open.ensures ∙ c.if-not-is_open.false) in
    let same = c.restore.ensures old.places c.len-before.ensures (put_back old.places new.places c.new-group.result new.group c.new-group.ensures c.in-Err.ensures.places.undone) in
    sound_on g.H.Disk g.B.Disk old.heads new.heads old.bodies new.bodies old.places them c.self.invariant was
    c.in-Err.ensures.grows (still_below old.bodies new.bodies old.places them same c.in-Err.ensures.grows.longer)
    (λ up kept. subst (λ (hs : List Head). IsKept g.H.Disk (heads_of new.heads) (heads_end new.heads) hs) (sym same)
    (c.in-Err.ensures.refused up kept))
    c.in-Err.ensures.clean

-- So they are those from before.
pub returns-in-Err-clause-refused : goal.returns-in-Err-clause-refused
returns-in-Err-clause-refused g c =
    let old = c.self.inside in
    let new = c.put_group.new in
    subst (λ (o : Opened g.row.H.Denot g.row.B.Denot). c.restore.new.self ≡ o.places) c.self.view_is
    (c.restore.ensures old.places c.len-before.ensures (put_back old.places new.places c.new-group.result new.group c.new-group.ensures c.in-Err.ensures.places.undone))

-- Each place that was replaced has another in its place.
pub restore-requires : goal.restore-requires
restore-requires g c =
    let old = c.self.inside in
    let new = c.put_group.new in
    (put_back old.places new.places c.new-group.result new.group c.new-group.ensures c.in-Err.ensures.places.undone).there

-- What is told of the parts of the log is told of what it shows.
pub returns-in-Ok-clause-put : goal.returns-in-Ok-clause-put
returns-in-Ok-clause-put g c =
    let new = c.put_group.new in
    subst (λ (o : Opened g.row.H.Denot g.row.B.Denot).
    PutsAll g.B.Disk (disk_of new.bodies) (end_of new.bodies)
    o.places c.args.ops.now new.group.kepts.items new.places)
    c.self.view_is
    c.in-Ok.ensures.put

-- So is what a crash leaves,
pub returns-in-Ok-clause-crash : goal.returns-in-Ok-clause-crash
returns-in-Ok-clause-crash g c =
    let new = c.put_group.new in
    subst (λ (o : Opened g.row.H.Denot g.row.B.Denot). IsKept g.H.Disk o.heads o.heads_end o.places
    → LeavesAllOrNone g.H.Disk g.B.Disk (heads_of new.heads) (disk_of new.bodies) (end_of new.bodies)
    o.places c.args.ops.now)
    c.self.view_is c.in-Ok.ensures.crash

-- also behind a refusal.
pub returns-in-Err-clause-crash : goal.returns-in-Err-clause-crash
returns-in-Err-clause-crash g c =
    let new = c.put_group.new in
    subst (λ (o : Opened g.row.H.Denot g.row.B.Denot). IsKept g.H.Disk o.heads o.heads_end o.places
    → LeavesAllOrNone g.H.Disk g.B.Disk (heads_of new.heads) (disk_of new.bodies) (end_of new.bodies)
    o.places c.args.ops.now)
    c.self.view_is c.in-Err.ensures.crash

-- Another operation has a digest of the group.
pub returns-in-Err-clause-collision : goal.returns-in-Err-clause-collision
returns-in-Err-clause-collision g c told =
    let new = c.put_group.new in
    subst (λ (o : Opened g.row.H.Denot g.row.B.Denot).
    ComesToClash g.B.Disk (disk_of new.bodies) (end_of new.bodies)
    o.places c.args.ops.now) c.self.view_is
    (let is : c.in-Err.fault ≡ Collision = cc in c.in-Err.ensures.collision (ap Err is))

-- The group has more bytes than one may have.
pub returns-in-Err-clause-too_long : goal.returns-in-Err-clause-too_long
returns-in-Err-clause-too_long g c told =
    subst (λ (o : Opened g.row.H.Denot g.row.B.Denot). IsTooLong o c.args.ops.now) c.self.view_is (inr
    (let is : c.in-Err.fault ≡ TooLong = cc in c.in-Err.ensures.too_long (ap Err is)))

-- A disk is told only where a call of one was refused.
pub returns-in-Err-clause-disk : goal.returns-in-Err-clause-disk
returns-in-Err-clause-disk g c told =
    let new = c.put_group.new in
    subst (λ (o : Opened g.row.H.Denot g.row.B.Denot). MoreFaults (g.H.Disk.faults o.heads) (g.H.Disk.faults
    (heads_of new.heads))
    ⊎ MoreFaults (g.B.Disk.faults o.bodies) (g.B.Disk.faults (disk_of new.bodies))) c.self.view_is
    (let is : c.in-Err.fault ≡ Disk = cc in c.in-Err.ensures.disk (ap Err is))

-- The log was open.
pub returns-in-Err-clause-closed : goal.returns-in-Err-clause-closed
returns-in-Err-clause-closed g c =
    let was : c.args.self.now.is_open ≡ true = sym c.is_open.ensures ∙ c.if-not-is_open.false in (
      λ told. subst (λ (o : Opened g.row.H.Denot g.row.B.Denot). o.is_open ≡ false) c.self.view_is
          (let is : c.in-Err.fault ≡ Closed = cc in c.in-Err.ensures.closed (ap Err is)),
      λ not. absurd cc,
    )

-- The group is no longer than one may be.
pub returns-in-Ok-clause-many : goal.returns-in-Ok-clause-many
returns-in-Ok-clause-many g c opens many = absurd (omega (arith, many, c.if-ops-gt-MOST_OF_A_GROUP.false))

-- Nor is it here.
pub returns-in-Err-clause-many : goal.returns-in-Err-clause-many
returns-in-Err-clause-many g c opens many = absurd (omega (arith, many, c.if-ops-gt-MOST_OF_A_GROUP.false))

-- What was put is behind the rest.
pub returns-in-Ok-clause-goes_on : goal.returns-in-Ok-clause-goes_on
returns-in-Ok-clause-goes_on g c =
    let old = c.self.inside in
    let new = c.put_group.new in
    let was = subst (λ (o : Opened g.row.H.Denot g.row.B.Denot). IsTrue o.is_open) (sym c.self.view_is)
    (sym c.is_open.ensures ∙ c.if-not-is_open.false) in
    let after = sound_on g.H.Disk g.B.Disk old.heads new.heads old.bodies new.bodies old.places new.places
    c.self.invariant was
    c.in-Ok.ensures.grows c.in-Ok.ensures.places.below (λ up. c.in-Ok.ensures.kept) c.in-Ok.ensures.clean in
    subst (λ (o : Opened g.row.H.Denot g.row.B.Denot).
    GoesOn g.H.Disk g.B.Disk o (opened g.H.Disk g.B.Disk new.heads new.bodies new.places)) c.self.view_is
    (goes_on g.H.Disk g.B.Disk old.heads new.heads old.bodies new.bodies old.places new.places c.self.invariant was
    c.in-Ok.ensures.grows c.in-Ok.ensures.clean after)

-- A refusal goes on with the heads from before.
pub returns-in-Err-clause-goes_on : goal.returns-in-Err-clause-goes_on
returns-in-Err-clause-goes_on g c =
    let old = c.self.inside in
    let new = c.put_group.new in
    let them = c.restore.new.self in
    let was = subst (λ (o : Opened g.row.H.Denot g.row.B.Denot). IsTrue o.is_open) (sym c.self.view_is)
    (sym c.is_open.ensures ∙ c.if-not-is_open.false) in
    let same = c.restore.ensures old.places c.len-before.ensures (put_back old.places new.places c.new-group.result new.group c.new-group.ensures c.in-Err.ensures.places.undone) in
    let after = sound_on g.H.Disk g.B.Disk old.heads new.heads old.bodies new.bodies old.places them
    c.self.invariant was
    c.in-Err.ensures.grows (still_below old.bodies new.bodies old.places them same c.in-Err.ensures.grows.longer)
    (λ up kept. subst (λ (hs : List Head). IsKept g.H.Disk (heads_of new.heads) (heads_end new.heads) hs) (sym same)
    (c.in-Err.ensures.refused up kept))
    c.in-Err.ensures.clean in
    subst (λ (o : Opened g.row.H.Denot g.row.B.Denot). GoesOn g.H.Disk g.B.Disk o
    (opened g.H.Disk g.B.Disk new.heads new.bodies them))
    c.self.view_is
    (goes_on g.H.Disk g.B.Disk old.heads new.heads old.bodies new.bodies old.places them c.self.invariant was
    c.in-Err.ensures.grows
    c.in-Err.ensures.clean after)
