use Rattle.std.proofs.Common.{subst}
use Rattle.op_log.specs.Log.{GoesOn, IsSound, Opened, opened}
use Rattle.op_log.proofs.Going.{goes_nowhere, goes_reading, sound_read}
use Rattle.op_log.proofs.log.OpLog.is_whole.Goals as goal

-- Nothing was read.
pub returns-in_default-clause-goes_on : goal.returns-in_default-clause-goes_on
returns-in_default-clause-goes_on g c =
    goes_nowhere g.H.Disk g.B.Disk c.args.self.now
    (subst (λ (o : Opened g.row.H.Denot g.row.B.Denot). IsSound g.H.Disk g.B.Disk o) c.self.view_is c.self.invariant)

-- A read goes on with the log.
pub returns-clause-goes_on : goal.returns-clause-goes_on
returns-clause-goes_on g c =
    let old = c.self.inside in
    let new = c.is_whole.new.bodies in
    subst (λ (o : Opened g.row.H.Denot g.row.B.Denot). GoesOn g.H.Disk g.B.Disk o
    (opened g.H.Disk g.B.Disk old.heads new old.places))
    c.self.view_is
    (goes_reading g.H.Disk g.B.Disk old.heads old.bodies new old.places c.self.invariant c.is_whole.ensures.grows
    c.is_whole.ensures.uses.usable)

-- And it stays sound.
pub invariant_of-self : goal.invariant_of-self
invariant_of-self g c =
    let old = c.self.inside in
    sound_read g.H.Disk g.B.Disk old.heads old.bodies c.is_whole.new.bodies old.places c.self.invariant
    c.is_whole.ensures.grows
    c.is_whole.ensures.uses.usable
