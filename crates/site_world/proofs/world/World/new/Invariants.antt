use Rattle.std.proofs.Common.{◌≡◌}
use Rattle.std.specs.Prelude.{replicate}
use Rattle.std.specs.FinMap as finmap
use Rattle.site_world.proofs.world.World.new.Given as goal

-- The sites that were made so far hold nothing.
abbrev pub invariant-loop : goal.invariant-loop
invariant-loop l = l.made.items ≡ replicate l.counter finmap.empty
