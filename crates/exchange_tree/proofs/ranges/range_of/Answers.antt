use Rattle.std.proofs.Common.{sym, subst, ◌∙◌}
use Rattle.std.specs.List.Sorted.{IsStrictlySortedBy}
use Rattle.octets.specs.Texts.{text_cmp}
use Rattle.exchange_tree.proofs.Orders.{sorted_behind, range_is}
use Rattle.exchange_tree.proofs.ranges.range_of.Goals as goal

-- What ascends does behind any place.
pub count_through-requires : goal.count_through-requires
count_through-requires c =
    subst (IsStrictlySortedBy text_cmp) (sym c.split_at.ensures.back)
    (sorted_behind c.count_before.result c.args.digests.now c.requires)

-- The range lies behind what comes before the node, and before what comes behind it.
pub returns : goal.returns
returns c =
    c.split_at-2.ensures.front
    ∙ range_is c.args.node.now c.args.digests.now c.split_at.result.1.now c.count_before.result c.count_through.result
    c.count_before.ensures.bound c.split_at.ensures.back c.count_before.ensures.point c.count_through.ensures.bound
    c.count_through.ensures.point
