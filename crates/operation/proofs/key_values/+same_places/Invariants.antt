use Rattle.std.proofs.Common.{length}
use Rattle.operation.proofs.key_values.+same_places.Given as goal

-- With each call one place fewer is left to compare.
abbrev pub decreases-same_places : goal.decreases-same_places
decreases-same_places l = length l.these.now
