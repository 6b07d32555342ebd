use Rattle.std.proofs.Common.{rules}
use Rattle.std.proofs.lemmas.List.Sorted.{IsPartitionPoint-from_clause}
use Rattle.exchange_tree.specs.Ranges.{is_before}
use Rattle.exchange_tree.proofs.Orders.{before_parts}
use Rattle.exchange_tree.proofs.ranges.count_before.Goals as goal

-- Digests that ascend are parted by whether they come before.
pub returns-clause-point : goal.returns-clause-point
returns-clause-point c =
    IsPartitionPoint-from_clause (is_before c.args.node.now) c.args.digests.now _ c.partition_point.ensures.partitioned
    (before_parts c.args.node.now c.args.digests.now c.requires) (λ a r q k. search rules)
