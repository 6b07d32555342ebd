use Rattle.std.proofs.Common.{length}
use Rattle.op_log.specs.Filling.{AreTaken}
use Rattle.op_log.proofs.filling.fill.Given as goal

-- The heads so far were taken, and the rest is left.
abbrev pub invariant-heads : goal.invariant-heads
invariant-heads l = AreTaken l.end l.fn.places l.places l.group l.rest

-- With each head less is left.
abbrev pub decreases-heads : goal.decreases-heads
decreases-heads l = length l.rest
