-- The one spelling of each walk.
use Rattle.std.specs.Prelude.{ℕ, ◌+◌, ◌*◌, List, [], ◌∷◌, ◌++◌, length, Option, Some, None}
use Rattle.std.specs.Int.{w16, to_be_bytes}
use Rattle.std.specs.List.{flat_map}
use Rattle.exchange_frames.specs.Spelling.{digests_text}
use Rattle.walk_frames.specs.Entries.{EntryParts}

-- two digits a byte, the high one first; a last half byte is 0
abbrev pub packed : List ℕ → List ℕ
packed [] = []
packed (high ∷ []) = (16 * high) ∷ []
packed (high ∷ low ∷ rest) = (16 * high + low) ∷ packed rest

-- how many digits, and the digits
abbrev pub node_text : List ℕ → List ℕ
node_text node = length node ∷ packed node

-- 00, or 01 and the sums
abbrev pub sums_text : Option (List (List ℕ)) → List ℕ
sums_text None = 0 ∷ []
sums_text (Some sums) = 1 ∷ digests_text sums

unfoldable pub entry_text : EntryParts → List ℕ
entry_text entry = node_text entry.node ++ sums_text entry.sums

-- how many entries, in two bytes, and the entries
unfoldable pub walk_text : List EntryParts → List ℕ
walk_text entries = to_be_bytes w16 (length entries) ++ flat_map entry_text entries
