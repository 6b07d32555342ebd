use Rattle.std.proofs.Common.{◌≡◌, ◌≤◌, ◌+◌, ◌*◌, ◌++◌, map, drop}
use Rattle.data_set.specs.Tree.{count, count_rows, count_trees, list_rows, rows_of, trees_of}
use Rattle.data_set.specs.Converted.{converted, converted_rows}
use Rattle.data_set.proofs.conversion.+converting.Given as goal

-- An element counts itself and all below it, so the items in it count less.
abbrev pub decreases-converted_element : goal.decreases-converted_element
decreases-converted_element l = 3 * count l.element.now

-- Putting an element counts one step more than its copy.
abbrev pub decreases-put_one : goal.decreases-put_one
decreases-put_one l = 3 * count l.element.now + 1

-- Elements count as much as all of them together, so each one counts no more.
abbrev pub decreases-put_converted : goal.decreases-put_converted
decreases-put_converted l = 3 * count_trees (trees_of l.elements.now) + 2

-- Items count themselves and all that is in them, so the elements of one item count less.
abbrev pub decreases-converted_items : goal.decreases-converted_items
decreases-converted_items l = 3 * count_rows (rows_of (map (λ item. item.items) l.items.now)) + 2

-- What was put, with the copies of the elements left, is the copies of all elements.
abbrev pub invariant-put_converted-loop-element : goal.invariant-put_converted-loop-element
invariant-put_converted-loop-element l =
    (l.out.items ++ converted l.syntax (drop l.element-index l.elements) ≡ l.initial.out.items ++ converted l.syntax
    l.elements)
    × (count_trees (trees_of (drop l.element-index l.elements)) ≤ count_trees (trees_of l.elements))

-- The items so far, with the copies of those left, are the copies of all items.
abbrev pub invariant-converted_items-loop-item : goal.invariant-converted_items-loop-item
invariant-converted_items-loop-item l =
    (map (λ item. item.items) l.out.items ++ list_rows
    (converted_rows l.syntax (rows_of (drop l.item-index (map (λ item. item.items) l.items)))) ≡ list_rows
    (converted_rows l.syntax (rows_of (map (λ item. item.items) l.items))))
    × (count_rows (rows_of (drop l.item-index (map (λ item. item.items) l.items))) ≤ count_rows
    (rows_of (map (λ item. item.items) l.items)))
