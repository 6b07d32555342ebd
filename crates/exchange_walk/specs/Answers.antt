-- What a site answers to a WALK.
use Rattle.std.specs.Prelude.{ℕ, Bool, ◌||◌, List, [], ◌∷◌, map, take, length, nat_lt, nat_le, Option, Some, None}
use Rattle.std.specs.Prelude.{if◌then◌else◌}
use Rattle.std.specs.List.{flat_map}
use Rattle.walk_frames.specs.declared.node.TheConstants.{MOST_DIGITS}
use Rattle.walk_frames.specs.declared.walk.TheConstants.{MOST_ENTRIES}
use Rattle.walk_frames.specs.Entries.{EntryParts}
use Rattle.exchange_tree.specs.Nodes.{beneath, child}
use Rattle.exchange_tree.specs.Sums.{child_sums}
use Rattle.exchange_tree.specs.Steps.{differing_at}
use Rattle.exchange_walk.specs.declared.summed.TheConstants.{LARGEST_PLACE}

-- A node is told as a place where at most 16 digests lie beneath it, or where its children would have 64 digits, which
-- no entry has.
abbrev pub is_place : List (List ℕ) → List ℕ → Bool
is_place digests node = nat_le MOST_DIGITS (length node) || nat_le (length (beneath node digests)) LARGEST_PLACE

-- what is told of a node: that it is a place, or the sums of its children
abbrev pub told_of : List (List ℕ) → List ℕ → Option (List (List ℕ))
told_of digests node = if is_place digests node then None else Some (child_sums digests node)

abbrev pub entry_of : List (List ℕ) → List ℕ → EntryParts
entry_of digests node = record { node = node; sums = told_of digests node }

-- the entries for the children of a node whose sums are other than the told ones, ascending
abbrev pub entries_beneath : List (List ℕ) → List ℕ → List (List ℕ) → List EntryParts
entries_beneath digests node theirs =
    map (λ digit. entry_of digests (child node digit)) (differing_at (child_sums digests node) theirs)

-- the answers to what was told of a node: none to a place, and none to the sums of children that no entry has
abbrev pub answers_at : List (List ℕ) → List ℕ → Option (List (List ℕ)) → List EntryParts
answers_at digests node None = []
answers_at digests node (Some theirs) =
    if nat_le MOST_DIGITS (length node) then [] else entries_beneath digests node theirs

abbrev pub answers_to : List (List ℕ) → EntryParts → List EntryParts
answers_to digests heard = answers_at digests heard.node heard.sums

-- the answers to all entries of a walk, in its order
unfoldable pub all_answers : List (List ℕ) → List EntryParts → List EntryParts
all_answers digests heard = flat_map (answers_to digests) heard

-- those of them that an answer has: the first 4,096
unfoldable pub answer_of : List (List ℕ) → List EntryParts → List EntryParts
answer_of digests heard = take MOST_ENTRIES (all_answers digests heard)

-- whether there are more
unfoldable pub is_full : List (List ℕ) → List EntryParts → Bool
is_full digests heard = nat_lt MOST_ENTRIES (length (all_answers digests heard))

-- the first walk of a caller: one split, of the root
abbrev pub root_of : List (List ℕ) → List EntryParts
root_of digests = record { node = []; sums = Some (child_sums digests []) } ∷ []
