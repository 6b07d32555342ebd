use Rattle.std.proofs.Common.{◌-◌}
use Rattle.std.specs.List.{range_with_len}
use Rattle.sha2.specs.Hashers.{Holds256}
use Rattle.exchange_tree.specs.Sums.{told_text}
use Rattle.exchange_tree.proofs.sums.sum_of_kept.Given as goal

-- The kept sums of the places below this one were hashed.
abbrev pub invariant-loop-place : goal.invariant-loop-place
invariant-loop-place l = Holds256 l.hasher (told_text l.kept (range_with_len l.first (l.place - l.first)))
