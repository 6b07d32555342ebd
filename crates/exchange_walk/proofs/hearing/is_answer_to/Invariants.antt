use Rattle.std.proofs.Common.{take}
use Rattle.exchange_walk.specs.Hearing.{IsAnswerTo}
use Rattle.exchange_walk.proofs.hearing.is_answer_to.Given as goal

-- each entry so far is for a child of a split that was said
abbrev pub invariant-loop-entry : goal.invariant-loop-entry
invariant-loop-entry l = IsAnswerTo l.said (take l.entry-index l.entry-items)
