-- How long the text of a walk is.
use Rattle.std.proofs.Common.{ℕ, ◌*◌, ◌≤◌, List, [], ◌∷◌, length, Option, Some, None, ap, arith}
use Rattle.std.specs.Prelude.{IfSome}
use Rattle.std.specs.List.{flat_map, AllByRecursion}
use Rattle.std.proofs.lemmas.List.{length-append}
use Rattle.std.proofs.lemmas.List.Concat.{flat_map-cons}
use Rattle.exchange_frames.proofs.Lists.{text_length}
use Rattle.walk_frames.specs.Entries.{EntryParts, AreSums, IsEntry}
use Rattle.walk_frames.specs.Walks.{IsWalk}
use Rattle.walk_frames.specs.Spelling.{node_text, sums_text, entry_text, walk_text}
use Rattle.walk_frames.proofs.NodeLaws.{packed_length}

sums_length : (sums : Option (List (List ℕ))) → IfSome sums AreSums → length (sums_text sums) ≤ 513
sums_length None is = omega arith
sums_length (Some ds) is = omega (arith, text_length ds is.whole, is.many)

entry_length : (entry : EntryParts) → IsEntry entry → length (entry_text entry) ≤ 546
unfolding entry_text
entry_length entry is =
    omega (
      arith,
      length-append (node_text entry.node) (sums_text entry.sums),
      packed_length entry.node,
      is.node.short,
      sums_length entry.sums is.sums,
    )

entries_length : (entries : List EntryParts) → AllByRecursion IsEntry entries
    → length (flat_map entry_text entries) ≤ 546 * length entries
entries_length [] are = omega arith
entries_length (entry ∷ entries) are =
    omega (
      arith,
      ap length (flat_map-cons entry_text entry entries),
      length-append (entry_text entry) (flat_map entry_text entries),
      entry_length entry are.0,
      entries_length entries are.1,
    )

-- A walk is no longer than the longest.
pub walk_length : (walk : List EntryParts) → IsWalk walk → length (walk_text walk) ≤ 2236418
unfolding walk_text
walk_length walk is = omega (arith, entries_length walk is.lawful, is.short)
