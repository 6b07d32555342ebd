use Rattle.std.proofs.Common.{◌≡◌, take}
use Rattle.walk_frames.proofs.sums.digests_of.Given as goal

-- the digests so far
abbrev pub invariant-loop-bytes : goal.invariant-loop-bytes
invariant-loop-bytes l = l.digests.items ≡ take l.bytes-index l.arrays
