use Rattle.std.proofs.Common.{◌≡◌, take, map}
use Rattle.command_words.proofs.titles.callers_in.Given as goal

-- The callers are those that were named so far.
abbrev pub invariant-loop-caller : goal.invariant-loop-caller
invariant-loop-caller l = l.callers ≡ map (λ n. n.now) (take l.caller-index l.named)
