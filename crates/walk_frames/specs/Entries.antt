-- The entries of a WALK.
use Rattle.std.specs.Prelude.{◌≡◌, ℕ, List, length, Option, Result, Ok, Err, IfSome, ◌==◌, if◌then◌else◌}
use Rattle.exchange_frames.specs.Spelling.{AreDigests}
use Rattle.exchange_frames.specs.declared.fault.FrameFault.{FrameFault}
use Rattle.exchange_frames.specs.declared.fault.FrameFault.TheVariants.{BadFrame}
use Rattle.walk_frames.specs.declared.node.TheConstants.{CHILDREN}
use Rattle.walk_frames.specs.Nodes.{IsNode}

-- a node, and the sums of its children, unless it is split no further
pub record EntryParts : Type 0 where
  pub node : List ℕ
  pub sums : Option (List (List ℕ))

-- 16 digests
pub record AreSums (digests : List (List ℕ)) : Type 0 where
  pub many : length digests ≡ CHILDREN
  pub whole : AreDigests digests

-- the sums of these digests, where they are as many
abbrev pub sums_of : List (List ℕ) → Result (List (List ℕ)) FrameFault
sums_of digests = if length digests == CHILDREN then Ok digests else Err BadFrame

pub record IsEntry (entry : EntryParts) : Type 0 where
  pub node : IsNode entry.node
  pub sums : IfSome entry.sums AreSums
