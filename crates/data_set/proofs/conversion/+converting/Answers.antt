use Rattle.std.proofs.Common.{List, map, ap, ◌∙◌, ◌++◌, arith}
use Rattle.data_set.specs.Tree.{Tree, node, rows_of}
use Rattle.data_set.specs.Converted.{converted, converted_rows, vr_in}
use Rattle.data_set.proofs.Lists.{rows_back}
use Rattle.data_set.proofs.Walks.{item_trees, row_counts, rows_converted}
use Rattle.data_set.proofs.conversion.+converting.Goals as goal

-- The items were converted, and the header of the element with them.
pub converted_element-returns-in_ok-items-in-Items : goal.converted_element-returns-in_ok-items-in-Items
converted_element-returns-in_ok-items-in-Items t c =
    rw (
      c.sequence.ensures,
      ← c.element.view_is,
      c.in-Items.is,
      c.in_ok-items-in-Items.ensures,
      c.as_slice.ensures.value,
      c.vr_for-vr.ensures,
    )
    (ap (node c.element.inside.tag (vr_in c.args.syntax c.element.inside.vr))
    (rows_back (converted_rows c.args.syntax (rows_of (map item_trees c.in-Items.items.items)))))

-- An item has fewer elements than all items have.
pub converted_items-put_converted-requires : goal.converted_items-put_converted-requires
converted_items-put_converted-requires t c =
    let counts = row_counts c.args.items.now c.loop-item.item-index _ c.item-item.result c.loop-item-test.true
    c.item-item.is c.loop-item.invariant.1 in
    rw c.as_slice.ensures.value (omega (arith, counts.0, c.decreases), tt)

-- The converted item goes behind those before it, and the others are still to be converted.
pub converted_items-loop-item-preserved : goal.converted_items-loop-item-preserved
converted_items-loop-item-preserved t c =
    let counts = row_counts c.args.items.now c.loop-item.item-index _ c.item-item.result c.loop-item-test.true
    c.item-item.is c.loop-item.invariant.1 in
    let made = c.in_ok-put_converted.ensures
    ∙ ap (λ (ts : List Tree). ts ++ converted c.args.syntax c.as_slice.result.now) c.in_ok-elements.ensures.items
    ∙ ap (converted c.args.syntax) c.as_slice.ensures.value in (
      rows_converted c.args.syntax c.args.items.now c.loop-item.item-index c.item-item.result c.loop-item.out.items
          c.push.new.self.items c.put_converted.new.out _ c.loop-item-test.true c.item-item.is c.loop-item.invariant.0
          made c.in_ok-push.ensures.items,
      counts.1,
    )
