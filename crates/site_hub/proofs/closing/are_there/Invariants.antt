use Rattle.std.proofs.Common.{◌≡◌}
use Rattle.site_hub.specs.Close.{are_there}
use Rattle.site_hub.proofs.closing.are_there.Given as goal

-- It is known of the numbers up to this one whether their passes are there.
abbrev pub invariant-loop-k : goal.invariant-loop-k
invariant-loop-k g l = l.are ≡ are_there l.k l.passes
