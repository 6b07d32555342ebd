use Rattle.std.proofs.Common.{take, map}
use Rattle.command_line.specs.Serving.{AreNetworks}
use Rattle.command_line.proofs.serving.networks_in.Given as goal

-- The networks are those of the texts so far.
abbrev pub invariant-loop-text : goal.invariant-loop-text
invariant-loop-text l = AreNetworks (map (λ text. text.now) (take l.text-index l.written)) l.networks.items
