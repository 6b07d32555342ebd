-- Which walks answer one that was said.
use Rattle.std.specs.Prelude.{◌≡◌, ◌<◌, ◌+◌, ◌==◌, ◌&&◌, ℕ, Bool, true, List, length}
use Rattle.octets.specs.Members.{Has}
use Rattle.walk_frames.specs.Nodes.{is_within}
use Rattle.walk_frames.specs.Entries.{EntryParts}
use Rattle.exchange_tree.specs.declared.nodes.TheConstants.{CHILD_COUNT}
use Rattle.exchange_tree.specs.Nodes.{child}
use Rattle.exchange_walk.specs.Splits.{is_split}

-- whether an entry is a split, and a node a child of its node
abbrev pub is_child_of : EntryParts → List ℕ → Bool
is_child_of split node = is_split split && (length node == length split.node + 1 && is_within node split.node)

-- a node is a child of that of a split that was said
pub record IsChildOfSplit (said : List EntryParts) (node : List ℕ) : Type 0 where
  pub split : EntryParts
  pub was_said : Has said split
  pub splits : is_split split ≡ true
  pub digit : ℕ
  pub small : digit < CHILD_COUNT
  pub is : node ≡ child split.node digit

-- Each entry that was heard is for a child of a split that was said.
abbrev pub IsAnswerTo : List EntryParts → List EntryParts → Type 0
IsAnswerTo said heard = (entry : EntryParts) → Has heard entry → IsChildOfSplit said entry.node
