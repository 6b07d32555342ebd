use Rattle.std.proofs.Common.{◌≡◌, ◌++◌, drop}
use Rattle.std.specs.List.{filter_map}
use Rattle.ul_state.specs.Answer.{accepted}
use Rattle.ul_state.proofs.answer.contexts_of.Given as goal

-- The accepted contexts so far, with those among the contexts left, are all that are accepted.
abbrev pub invariant-loop-context : goal.invariant-loop-context
invariant-loop-context l = l.list ++ filter_map (accepted l.roles) (drop l.context-index l.contexts) ≡ filter_map
    (accepted l.roles) l.contexts
