use Rattle.std.proofs.Common.{◌≡◌}
use Rattle.std.specs.Prelude.{filter}
use Rattle.std.specs.List.{range_with_len}
use Rattle.exchange.specs.Buckets.{is_unequal}
use Rattle.exchange.proofs.buckets.unequal.Given as goal

-- The places so far are those below this one with unequal buckets.
abbrev pub invariant-loop-place : goal.invariant-loop-place
invariant-loop-place l = l.places.items ≡ filter (is_unequal l.own l.theirs) (range_with_len 0 l.place)
