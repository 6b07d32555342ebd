-- Which entries of a walk are splits, and which are places.
use Rattle.std.specs.Prelude.{ℕ, Bool, not, List, map, filter}
use Rattle.std.specs.Option.{is_some}
use Rattle.std.specs.List.{list_any}
use Rattle.walk_frames.specs.Entries.{EntryParts}

-- an entry that tells the sums of its node's children
abbrev pub is_split : EntryParts → Bool
is_split entry = is_some entry.sums

-- whether a walk is to be answered
abbrev pub has_splits : List EntryParts → Bool
has_splits walk = list_any is_split walk

abbrev pub is_place_entry : EntryParts → Bool
is_place_entry entry = not (is_split entry)

-- the nodes of the places of a walk, ascending
abbrev pub places_of : List EntryParts → List (List ℕ)
places_of walk = map (λ entry. entry.node) (filter is_place_entry walk)
