use Rattle.std.proofs.Common.{◌+◌, drop, get_or, refl, sym, ap, ◌∙◌}
use Rattle.std.specs.Ordering.{ordering_then}
use Rattle.std.specs.declared.cmp.Ordering.{Ordering}
use Rattle.exchange_tree.specs.Nodes.{digits_of}
use Rattle.exchange_tree.specs.Ranges.{node_cmp}
use Rattle.exchange_tree.proofs.Orders.{node_step, all_same, then_other, is_same, is_other}
use Rattle.exchange_tree.proofs.ranges.order_to.Goals as goal

-- This digit is equal too.
pub loop-at-preserved : goal.loop-at-preserved
loop-at-preserved c =
    let at = c.loop-at.at in
    let ds = digits_of c.args.bytes.now in
    let ns = c.args.node.now in
    let rest = node_cmp (drop (at + 1) ds) (drop (at + 1) ns) in
    let same = sym c.order_at-order.ensures ∙ is_same c.order_at-order.result (sym c.ne.ensures ∙ c.if-ne.false) in
    ap (λ (o : Ordering). ordering_then o rest) (sym same)
    ∙ sym (node_step ds ns at (get_or ns at 0) c.loop-at-test.true refl) ∙ c.loop-at.invariant

-- This digit decides.
pub returns-then-ne : goal.returns-then-ne
returns-then-ne c =
    let at = c.loop-at.at in
    let ds = digits_of c.args.bytes.now in
    let ns = c.args.node.now in
    let rest = node_cmp (drop (at + 1) ds) (drop (at + 1) ns) in
    let other = is_other c.order_at-order.result (sym c.ne.ensures ∙ c.if-ne.true) in
    sym (then_other c.order_at-order.result rest other)
    ∙ ap (λ (o : Ordering). ordering_then o rest) c.order_at-order.ensures
    ∙ sym (node_step ds ns at (get_or ns at 0) c.loop-at-test.true refl) ∙ c.loop-at.invariant

-- All digits are equal.
pub returns : goal.returns
returns c = sym (sym c.loop-at.invariant
    ∙ all_same (digits_of c.args.bytes.now) c.args.node.now c.loop-at.at c.loop-at-test.false)
