use Rattle.std.proofs.Common.{rules, ◌≡◌, ◌+◌, Contains, ℕ, List, subst, sym, ap}
use Rattle.std.proofs.lemmas.List.Elements.{All-contains_itself}
use Rattle.body_log.specs.Log.{disk_of, end_of}
use Rattle.body_log.specs.Fault.{CountsAs}
use Rattle.operation.specs.declared.op.Op.{Op}
use Rattle.op_log.specs.declared.fault.LogFault.TheVariants.{Disk}
use Rattle.op_log.specs.Heads.{Head, head_of}
use Rattle.op_log.specs.Kept.{IsBelow}
use Rattle.op_log.specs.Loaded.{HasBadHead}
use Rattle.op_log.specs.Log.{GoesOn, IsSound, Opened, opened}
use Rattle.op_log.specs.Places.{head_by}
use Rattle.op_log.proofs.Faults.{counts_as}
use Rattle.op_log.proofs.Going.{goes_nowhere, goes_reading, sound_read}
use Rattle.op_log.proofs.Growing.{reaches_less}
use Rattle.op_log.proofs.Lookups.{among}
use Rattle.op_log.proofs.log.OpLog.read.Goals as goal

-- No operation is that of the head.
pub returns-in_err-op-clause-bad : goal.returns-in_err-op-clause-bad
returns-in_err-op-clause-bad g c clean n told =
    let places = c.self.inside.places in
    let h = head_by c.args.digest.now c.in-Some.place.now in
    let at = c.read_at.ensures.place n (search rules) in
    let bad = c.read_at.ensures.damaged clean in
    let own = λ (op : Op) (head : h ≡ head_of (op, h.at)).
    subst (λ (d : List ℕ). head_by d c.in-Some.place.now ≡ head_of (op, h.at)) (ap (λ (k : Head). k.digest) head) head in
    subst (λ (o : Opened g.row.H.Denot g.row.B.Denot). HasBadHead (g.B.Disk.seen o.bodies) o.places n) c.self.view_is
    (record {
      head = h;
      among = among (Contains places) places c.args.digest.now h c.in-Some.ensures.found (All-contains_itself places);
      place = sym at;
      none = λ op it. bad op it.lawful (own op it.head) it.held n (search rules);
    })

-- The data set lies below the end of its file.
pub returns-in_err-op-clause-disk : goal.returns-in_err-op-clause-disk
returns-in_err-op-clause-disk g c =
    let bodies = c.self.inside.bodies in
    let h = head_by c.args.digest.now c.in-Some.place.now in
    let low = among (IsBelow (end_of bodies)) c.self.inside.places c.args.digest.now h c.in-Some.ensures.found
    c.self.invariant.below in
    let new = g.B.Disk.faults (disk_of c.read_at.new.bodies) in
    subst (λ (o : Opened g.row.H.Denot g.row.B.Denot). CountsAs Disk c.from_residual.result
    (g.B.Disk.faults o.bodies) new) c.self.view_is
    (counts_as c.from_residual.result c.in_err-op.field-0.0 (g.B.Disk.faults (disk_of bodies)) new
    c.from_residual.ensures.1
    λ told. c.in_err-op.ensures.disk told (reaches_less g.B.Disk bodies (h.at + h.size) low c.self.invariant.reach))

-- Nothing was read.
pub returns-in_default-clause-goes_on : goal.returns-in_default-clause-goes_on
returns-in_default-clause-goes_on g c =
    goes_nowhere g.H.Disk g.B.Disk c.args.self.now
    (subst (λ (o : Opened g.row.H.Denot g.row.B.Denot). IsSound g.H.Disk g.B.Disk o) c.self.view_is c.self.invariant)

-- A read goes on with the log.
pub returns-in_err-op-clause-goes_on : goal.returns-in_err-op-clause-goes_on
returns-in_err-op-clause-goes_on g c =
    let old = c.self.inside in
    let new = c.read_at.new.bodies in
    subst (λ (o : Opened g.row.H.Denot g.row.B.Denot). GoesOn g.H.Disk g.B.Disk o
    (opened g.H.Disk g.B.Disk old.heads new old.places))
    c.self.view_is
    (goes_reading g.H.Disk g.B.Disk old.heads old.bodies new old.places c.self.invariant c.read_at.ensures.grows
    c.read_at.ensures.uses.usable)

-- So does one that found the operation.
pub returns-clause-goes_on : goal.returns-clause-goes_on
returns-clause-goes_on g c =
    let old = c.self.inside in
    let new = c.read_at.new.bodies in
    subst (λ (o : Opened g.row.H.Denot g.row.B.Denot). GoesOn g.H.Disk g.B.Disk o
    (opened g.H.Disk g.B.Disk old.heads new old.places))
    c.self.view_is
    (goes_reading g.H.Disk g.B.Disk old.heads old.bodies new old.places c.self.invariant c.read_at.ensures.grows
    c.read_at.ensures.uses.usable)

-- And the log stays sound.
pub invariant_of-self : goal.invariant_of-self
invariant_of-self g c =
    let old = c.self.inside in
    sound_read g.H.Disk g.B.Disk old.heads old.bodies c.read_at.new.bodies old.places c.self.invariant
    c.read_at.ensures.grows
    c.read_at.ensures.uses.usable
