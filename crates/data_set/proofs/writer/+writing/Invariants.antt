use Rattle.std.proofs.Common.{◌≡◌, ◌≤◌, ◌+◌, ◌*◌, ◌++◌, map, drop}
use Rattle.data_set.specs.Tree.{count, count_rows, count_trees, rows_of, trees_of}
use Rattle.data_set.specs.Written.{text_rows, text_trees}
use Rattle.data_set.specs.Lengths.{FitsRows, FitsTrees}
use Rattle.data_set.proofs.writer.+writing.Given as goal

-- An element counts itself and all below it, so the items in it count less.
abbrev pub decreases-put_element : goal.decreases-put_element
decreases-put_element l = 2 * count l.element.now

-- Items count themselves and all that is in them, so the elements of one item count less.
abbrev pub decreases-put_items : goal.decreases-put_items
decreases-put_items l = 2 * count_rows (rows_of (map (λ item. item.items) l.items.now)) + 1

-- Elements count as much as all of them together, so each one counts no more.
abbrev pub decreases-put_elements : goal.decreases-put_elements
decreases-put_elements l = 2 * count_trees (trees_of l.elements.now) + 1

-- What was put, with the text of the elements left, is the text of all; those left fit.
abbrev pub invariant-put_elements-loop-element : goal.invariant-put_elements-loop-element
invariant-put_elements-loop-element l =
    (l.out.items ++ text_trees (trees_of (drop l.element-index l.elements)) ≡ l.initial.out.items ++ text_trees
    (trees_of l.elements))
    × FitsTrees (trees_of (drop l.element-index l.elements))
    × (count_trees (trees_of (drop l.element-index l.elements)) ≤ count_trees (trees_of l.elements))

-- What was put, with the text of the items left, is the text of all; those left fit.
abbrev pub invariant-put_items-loop-item : goal.invariant-put_items-loop-item
invariant-put_items-loop-item l =
    (l.out.items ++ text_rows (rows_of (drop l.item-index (map (λ item. item.items) l.items))) ≡ l.initial.out.items
    ++ text_rows (rows_of (map (λ item. item.items) l.items)))
    × FitsRows (rows_of (drop l.item-index (map (λ item. item.items) l.items)))
    × (count_rows (rows_of (drop l.item-index (map (λ item. item.items) l.items))) ≤ count_rows
    (rows_of (map (λ item. item.items) l.items)))
