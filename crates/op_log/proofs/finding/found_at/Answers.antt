use Rattle.op_log.proofs.Growing.{grows_twice}
use Rattle.op_log.proofs.finding.found_at.Goals as goal

-- Two reads write nothing.
pub returns-in-Ok-false-clause-grows : goal.returns-in-Ok-false-clause-grows
returns-in-Ok-false-clause-grows g c =
    grows_twice g.B.Disk c.args.bodies.now c.lies_at.new.bodies c.tested_at.new.bodies c.lies_at.ensures.grows c.tested_at.ensures.grows
