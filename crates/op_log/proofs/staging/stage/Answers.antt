use Rattle.op_log.proofs.Growing.{grows_twice, settled, synced}
use Rattle.op_log.proofs.staging.stage.Goals as goal

-- A sync writes nothing.
pub returns-in_err-settle-clause-grows : goal.returns-in_err-settle-clause-grows
returns-in_err-settle-clause-grows g c =
    let mid = c.stage_each.new.bodies in
    let new = c.settle.new.self in
    grows_twice g.B.Disk c.args.bodies.now mid new c.stage_each.ensures.grows (synced g.B.Disk mid new c.settle.ensures.spared c.settle.ensures.end c.settle.ensures.seen)

-- Each data set that is in the file lasts.
pub returns-clause-settled : goal.returns-clause-settled
returns-clause-settled g c =
    let mid = c.stage_each.new.bodies in
    let new = c.settle.new.self in
    settled g.B.Disk mid new (synced g.B.Disk mid new c.settle.ensures.spared c.settle.ensures.end c.settle.ensures.seen) c.in_ok-settle.ensures.settled
    c.settle.ensures.seen c.args.places.now c.stage_each.new.places c.args.group.now c.stage_each.new.group c.args.ops.now
    c.requires.begun c.in_ok-stage_each.ensures.staged

-- It grew, and a sync changes no byte.
pub returns-clause-grows : goal.returns-clause-grows
returns-clause-grows g c =
    let mid = c.stage_each.new.bodies in
    let new = c.settle.new.self in
    grows_twice g.B.Disk c.args.bodies.now mid new c.stage_each.ensures.grows (synced g.B.Disk mid new c.settle.ensures.spared c.settle.ensures.end c.settle.ensures.seen)
