-- In which place a digest is taken.
use Rattle.std.specs.Prelude.{◌≡◌, ◌<◌, ◌+◌, ◌*◌, ℕ, true, List, slice_index}
use Rattle.octets.specs.Texts.{put}
use Rattle.exchange_tree.specs.declared.nodes.TheConstants.{PLACE_COUNT}
use Rattle.exchange_tree.specs.Nodes.{is_beneath, IsDigest}
use Rattle.exchange_tree.specs.Sums.{node_of, SameElsewhere}

-- the place of a digest: its first two bytes
abbrev pub place_of : List ℕ → ℕ
place_of digest = slice_index digest 0 * 256 + slice_index digest 1

-- A digest is beneath the node of its place, and one that is taken changes the digests beneath no other.
pub record TakenInPlace : Type 0 where
  pub bound : (digest : List ℕ) → IsDigest digest → place_of digest < PLACE_COUNT
  pub own : (digest : List ℕ) → IsDigest digest → is_beneath (node_of (place_of digest)) digest ≡ true
  pub others : (digest : List ℕ) (digests : List (List ℕ)) → IsDigest digest
      → SameElsewhere (place_of digest) digests (put digest digests)
