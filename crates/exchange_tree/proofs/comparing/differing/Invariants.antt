use Rattle.std.proofs.Common.{◌≡◌}
use Rattle.std.specs.Prelude.{filter}
use Rattle.std.specs.List.{range_with_len}
use Rattle.exchange_tree.specs.Steps.{is_unequal}
use Rattle.exchange_tree.proofs.comparing.differing.Given as goal

-- The digits so far are those below this one with unequal sums.
abbrev pub invariant-loop-digit : goal.invariant-loop-digit
invariant-loop-digit l = l.digits.items ≡ filter (is_unequal l.own l.theirs) (range_with_len 0 l.digit)
