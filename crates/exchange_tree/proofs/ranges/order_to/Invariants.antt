use Rattle.std.proofs.Common.{◌≡◌, drop}
use Rattle.exchange_tree.specs.Nodes.{digits_of}
use Rattle.exchange_tree.specs.Ranges.{node_cmp}
use Rattle.exchange_tree.proofs.ranges.order_to.Given as goal

-- The digits so far are equal.
abbrev pub invariant-loop-at : goal.invariant-loop-at
invariant-loop-at l =
    node_cmp (drop l.at (digits_of l.bytes)) (drop l.at l.node) ≡ node_cmp (digits_of l.bytes) l.node
