use Rattle.std.proofs.Common.{length}
use Rattle.op_log.proofs.staging.+stage_each.Given as goal

-- With each call one operation fewer is left.
abbrev pub decreases-stage_each : goal.decreases-stage_each
decreases-stage_each g l = length l.ops.now
