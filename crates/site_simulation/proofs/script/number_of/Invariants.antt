use Rattle.std.proofs.Common.{◌≡◌, ◌+◌, drop}
use Rattle.site_simulation.specs.Script.{number_from}
use Rattle.site_simulation.proofs.script.number_of.Given as goal

-- No name so far is this one, so its number is found among the names left.
abbrev pub invariant-loop-i : goal.invariant-loop-i
invariant-loop-i l = number_from (l.i + 1) l.name (drop l.i l.names) ≡ number_from 1 l.name l.names
