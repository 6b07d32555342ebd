use Rattle.std.proofs.Common.{◌≡◌, length}
use Rattle.exchange.proofs.Hashed.{AreNew}
use Rattle.exchange.proofs.buckets.new_hashers.Given as goal

-- There is a hasher for each place so far, and none was fed.
abbrev pub invariant-loop : goal.invariant-loop
invariant-loop l = record { long : length l.hashers.items ≡ l.counter; fresh : AreNew l.hashers.items }
