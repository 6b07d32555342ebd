use Rattle.std.proofs.Common.{rules}
use Rattle.std.proofs.lemmas.List.Sorted.{IsPartitionPoint-from_clause}
use Rattle.exchange_tree.specs.Ranges.{is_through}
use Rattle.exchange_tree.proofs.Orders.{through_parts}
use Rattle.exchange_tree.proofs.ranges.count_through.Goals as goal

-- Digests that ascend are parted by whether they do not come behind.
pub returns-clause-point : goal.returns-clause-point
returns-clause-point c =
    IsPartitionPoint-from_clause (is_through c.args.node.now) c.args.digests.now _ c.partition_point.ensures.partitioned
    (through_parts c.args.node.now c.args.digests.now c.requires) (λ a r q k. search rules)
