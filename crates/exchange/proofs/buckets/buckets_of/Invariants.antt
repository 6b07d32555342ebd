use Rattle.std.specs.Prelude.{drop}
use Rattle.exchange.proofs.Hashed.{IsFed}
use Rattle.exchange.proofs.buckets.buckets_of.Given as goal

-- Each hasher was fed the digests of its place that came so far.
abbrev pub invariant-loop-bytes : goal.invariant-loop-bytes
invariant-loop-bytes l = IsFed l.hashers.items (drop l.bytes-index l.arrays) l.arrays
