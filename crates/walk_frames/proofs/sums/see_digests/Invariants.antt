use Rattle.std.proofs.Common.{take}
use Rattle.exchange_frames.specs.Spelling.{AreDigests}
use Rattle.walk_frames.proofs.sums.see_digests.Given as goal

-- the digests so far have 32 bytes each
abbrev pub invariant-loop-digest : goal.invariant-loop-digest
invariant-loop-digest l = AreDigests (take l.digest-index l.digests)
