use Rattle.std.proofs.Common.{◌≡◌, ◌++◌, take, drop, map}
use Rattle.std.specs.List.{AllByRecursion}
use Rattle.ul_state.specs.Answer.{answered, HasByteId}
use Rattle.ul_state.proofs.answer.answers.Given as goal

-- The answers so far, with those to the contexts left, are all; each ID so far is a byte.
abbrev pub invariant-loop-context : goal.invariant-loop-context
invariant-loop-context l =
    (l.list ++ map (answered l.roles) (drop l.context-index l.contexts) ≡ map (answered l.roles) l.contexts)
    × AllByRecursion HasByteId (take l.context-index l.contexts)
