use Rattle.std.proofs.Common.{◌≡◌, ◌++◌, drop}
use Rattle.exchange.proofs.parts.copied.Given as goal

-- The digests that were copied, with those that are left, are all.
abbrev pub invariant-loop-bytes : goal.invariant-loop-bytes
invariant-loop-bytes l = l.digests ++ drop l.bytes-index l.arrays ≡ l.arrays
