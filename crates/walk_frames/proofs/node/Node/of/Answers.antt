use Rattle.std.proofs.Common.{sym, ap, ◌∙◌}
use Rattle.walk_frames.specs.Nodes.{is_node}
use Rattle.walk_frames.proofs.NodeLaws.{node_is}
use Rattle.walk_frames.proofs.node.Node.of.Goals as goal

-- The digits passed the test.
pub invariant_of-result : goal.invariant_of-result
invariant_of-result c = node_is c.args.digits.items
    (ap is_node (sym c.as_slice.ensures.value) ∙ sym c.is_node.ensures ∙ c.if-not-is_node.false)
