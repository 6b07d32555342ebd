use Rattle.std.proofs.Common.{length}
use Rattle.operation.proofs.value_texts.+put_places.Given as goal

-- With each call one place fewer is left to write.
abbrev pub decreases-put_places : goal.decreases-put_places
decreases-put_places l = length l.places.now
