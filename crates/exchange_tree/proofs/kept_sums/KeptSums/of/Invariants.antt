use Rattle.std.proofs.Common.{◌≡◌}
use Rattle.std.specs.Prelude.{map}
use Rattle.std.specs.List.{range_with_len}
use Rattle.exchange_tree.specs.Sums.{kept_of}
use Rattle.exchange_tree.proofs.kept_sums.KeptSums.of.Given as goal

-- The sums so far are those of the places below this one.
abbrev pub invariant-loop-place : goal.invariant-loop-place
invariant-loop-place l = l.sums.items ≡ map (kept_of l.arrays) (range_with_len 0 l.place)
