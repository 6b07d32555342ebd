use Rattle.std.proofs.Common.{◌≡◌}
use Rattle.std.specs.Prelude.{map}
use Rattle.std.specs.List.{range_with_len}
use Rattle.exchange_tree.specs.Nodes.{child}
use Rattle.exchange_tree.specs.Sums.{sum_of}
use Rattle.exchange_tree.proofs.sums.children.Given as goal

-- The sums so far are those of the children by the digits below this one.
abbrev pub invariant-loop-digit : goal.invariant-loop-digit
invariant-loop-digit l =
    l.sums.items ≡ map (λ digit. sum_of l.digests (child l.node digit)) (range_with_len 0 l.digit)
