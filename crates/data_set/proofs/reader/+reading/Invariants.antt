use Rattle.std.proofs.Common.{ℕ, Option, None, length, map, ◌≤◌, ◌+◌, ◌*◌}
use Rattle.data_set.specs.Texts.{Takes, IsElement, IsItem, after_tag, no_order}
use Rattle.data_set.proofs.reader.+reading.Given as goal

-- The levels that are left; elements are the first of the five steps of a level.
abbrev pub decreases-read_elements : goal.decreases-read_elements
decreases-read_elements l = 5 * l.depth + 4

-- The levels that are left; an element is the second step of a level.
abbrev pub decreases-read_element : goal.decreases-read_element
decreases-read_element l = 5 * l.depth + 3

-- The levels that are left; a sequence is the third step of a level.
abbrev pub decreases-read_sequence : goal.decreases-read_sequence
decreases-read_sequence l = 5 * l.depth + 2

-- The levels that are left; items are the fourth step of a level.
abbrev pub decreases-read_items : goal.decreases-read_items
decreases-read_items l = 5 * l.depth + 1

-- The levels that are left; an item is the last step, and its elements are one level down.
abbrev pub decreases-read_item : goal.decreases-read_item
decreases-read_item l = 5 * l.depth

-- The text begins with the elements so far, and what is left comes behind them.
abbrev pub invariant-read_elements-loop-after : goal.invariant-read_elements-loop-after
invariant-read_elements-loop-after l =
    Takes (IsElement l.depth l.syntax) after_tag l.closing None l.text l.elements.items l.previous l.left
    × (length l.left ≤ length l.text)

-- With each element less of the text is left.
abbrev pub decreases-read_elements-loop-after : goal.decreases-read_elements-loop-after
decreases-read_elements-loop-after l = length l.left

-- The text begins with the items so far, and what is left comes behind them.
abbrev pub invariant-read_items-loop-after : goal.invariant-read_items-loop-after
invariant-read_items-loop-after l =
    ((last : Option ℕ) × Takes (IsItem l.depth l.syntax) no_order l.closing None
    l.text (map (λ w. w.items) l.items.items) last l.left) × (length l.left ≤ length l.text)

-- With each item less of the text is left.
abbrev pub decreases-read_items-loop-after : goal.decreases-read_items-loop-after
decreases-read_items-loop-after l = length l.left
