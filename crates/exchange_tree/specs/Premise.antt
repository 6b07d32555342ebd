-- What the premise of a step comes to: that SHA-256 tells some pairs of texts apart.
use Rattle.std.specs.Prelude.{◌≡◌, ◌<◌, ◌+◌, ℕ, true, List, length}
use Rattle.std.specs.List.Sorted.{IsStrictlySortedBy}
use Rattle.sha2.specs.Sha256.{sha256}
use Rattle.octets.specs.Members.{Has}
use Rattle.octets.specs.Texts.{text_cmp}
use Rattle.exchange_frames.specs.Spelling.{digests_text}
use Rattle.exchange_tree.specs.declared.nodes.TheConstants.{CHILD_COUNT, KEPT_DEPTH, PLACE_COUNT}
use Rattle.exchange_tree.specs.Nodes.{begins, beneath, child, IsDigest}
use Rattle.exchange_tree.specs.Sums.{node_of, hashed}
use Rattle.exchange_tree.specs.Steps.{NodesTell}

-- digests that ascend, each once
pub record AreDigestsInOrder (digests : List (List ℕ)) : Type 0 where
  pub ascending : IsStrictlySortedBy text_cmp digests
  pub each : (digest : List ℕ) → Has digests digest → IsDigest digest

-- two texts of one SHA-256 are one
abbrev pub AreTold : List ℕ → List ℕ → Type 0
AreTold a b = sha256 a ≡ sha256 b → a ≡ b

-- Of the two texts that were hashed in two sets for a child of a node, and where that lies above the places for a place
-- beneath the node, those of one sum are one: of so many pairs of texts it is asked.
pub record HashesTell (own theirs : List (List ℕ)) (node : List ℕ) : Type 0 where
  pub children : (digit : ℕ) → digit < CHILD_COUNT
      → AreTold (hashed own (child node digit)) (hashed theirs (child node digit))
  pub places : (place : ℕ) → length node + 1 < KEPT_DEPTH → place < PLACE_COUNT → begins node (node_of place) ≡ true
      → AreTold (digests_text (beneath (node_of place) own)) (digests_text (beneath (node_of place) theirs))

-- Then unequal digests beneath a child have unequal sums: texts of kept sums are read in one way.
abbrev pub ToldHashesTell : Type 0
ToldHashesTell =
    (own theirs : List (List ℕ)) (node : List ℕ) → AreDigestsInOrder own → AreDigestsInOrder theirs
    → HashesTell own theirs node → NodesTell own theirs node
