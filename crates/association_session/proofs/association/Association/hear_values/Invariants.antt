use Rattle.std.proofs.Common.{length}
use Rattle.association_session.proofs.HearLaws.{Fed}
use Rattle.association_session.proofs.association.Association.hear_values.Given as goal

-- the values so far ended no message
abbrev pub invariant-loop-value : goal.invariant-loop-value
invariant-loop-value l = Fed l.fn.self l.self

-- Each turn leaves fewer values.
abbrev pub decreases-loop-value : goal.decreases-loop-value
decreases-loop-value l = length l.self.queue
