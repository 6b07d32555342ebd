use Rattle.std.proofs.Common.{ℕ, ◌++◌, List, ◌∙◌, ap, arith}
use Rattle.data_set.proofs.Walks.{trees_left, rows_left, trees_put, rows_put}
use Rattle.data_set.proofs.writer.+writing.Goals as goal

-- An element has fewer elements than all have, and its lengths fit.
pub put_elements-put_element-requires : goal.put_elements-put_element-requires
put_elements-put_element-requires t c =
    let left = trees_left c.args.elements.now c.loop-element.element-index _ c.element-item.result
    c.loop-element-test.true c.element-item.is c.loop-element.invariant.1 c.loop-element.invariant.2 in
    (omega (arith, left.few, c.decreases), left.fits)

-- The element goes behind those before it, and the others are still to be put.
pub put_elements-loop-element-preserved : goal.put_elements-loop-element-preserved
put_elements-loop-element-preserved t c =
    let left = trees_left c.args.elements.now c.loop-element.element-index _ c.element-item.result
    c.loop-element-test.true c.element-item.is c.loop-element.invariant.1 c.loop-element.invariant.2 in (
      trees_put c.args.elements.now c.loop-element.element-index c.element-item.result c.loop-element.out.items
          c.put_element.new.out.items _ c.loop-element-test.true c.element-item.is c.loop-element.invariant.0
          c.in_ok-put_element.ensures,
      left.fit,
      left.fewer,
    )

-- An item has fewer elements than all items have, and their lengths fit.
pub put_items-put_elements-requires : goal.put_items-put_elements-requires
put_items-put_elements-requires t c =
    let left = rows_left c.args.items.now c.loop-item.item-index _ c.item-item.result c.loop-item-test.true
    c.item-item.is c.loop-item.invariant.1 c.loop-item.invariant.2 in
    rw c.as_slice.ensures.value (omega (arith, left.few, c.decreases), left.fits)

-- The item goes behind those before it with its header and its end, and the others are still to be put.
pub put_items-loop-item-preserved : goal.put_items-loop-item-preserved
put_items-loop-item-preserved t c =
    let left = rows_left c.args.items.now c.loop-item.item-index _ c.item-item.result c.loop-item-test.true
    c.item-item.is c.loop-item.invariant.1 c.loop-item.invariant.2 in (
      rows_put c.args.items.now c.loop-item.item-index c.item-item.result c.loop-item.out.items c.put_tag.new.out.items
          c.extend_from_slice.new.self.items c.put_elements.new.out.items c.put_end.new.out.items _
          c.loop-item-test.true
          c.item-item.is c.loop-item.invariant.0 c.in_ok-put_tag.ensures (c.in_ok-extend_from_slice.ensures.items
          ∙ ap (λ (x : List ℕ). c.put_tag.new.out.items ++ x) c.to_le_bytes.ensures)
          (rw c.as_slice.ensures.value at c.in_ok-put_elements.ensures) c.in_ok-put_end.ensures,
      left.fit,
      left.fewer,
    )
