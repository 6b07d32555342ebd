use Rattle.std.proofs.Common.{rules}
use Rattle.std.proofs.lemmas.List.Sorted.{IsPartitionPoint-from_clause}
use Rattle.walk_frames.specs.Nodes.{is_before}
use Rattle.exchange_walk.proofs.Children.{before_parts}
use Rattle.exchange_walk.proofs.hearing.count_before.Goals as goal

-- Entries that ascend are parted by whether they stand before a node.
pub returns-clause-point : goal.returns-clause-point
returns-clause-point c =
    IsPartitionPoint-from_clause (λ e. is_before e.node c.args.node.now) c.args.said.now _
    c.partition_point.ensures.partitioned (before_parts c.args.node.now c.args.said.now c.requires.apart)
    (λ a r q k. search rules)
