-- One step of the walk: which children of a node have unequal sums, and what that finds.
use Rattle.std.specs.Prelude.{◌≡◌, ◌<◌, ◌⊎◌, ℕ, Bool, true, not, List, [], filter, length, get_or}
use Rattle.std.specs.List.{range_with_len}
use Rattle.octets.specs.Members.{Has}
use Rattle.octets.specs.Texts.{same}
use Rattle.exchange_tree.specs.declared.nodes.TheConstants.{CHILD_COUNT, DEEPEST}
use Rattle.exchange_tree.specs.Nodes.{is_beneath, beneath, child, IsDigest}
use Rattle.exchange_tree.specs.Sums.{sum_of, child_sums}

-- whether two lists of sums are unequal at a digit
abbrev pub is_unequal : List (List ℕ) → List (List ℕ) → ℕ → Bool
is_unequal own theirs digit = not (same (get_or own digit []) (get_or theirs digit []))

-- the digits at which two lists of sums are unequal, ascending
unfoldable pub differing_at : List (List ℕ) → List (List ℕ) → List ℕ
differing_at own theirs = filter (is_unequal own theirs) (range_with_len 0 CHILD_COUNT)

-- Where the sums of a child of the node are equal, so are the digests beneath it: of so many pairs of sums it is asked.
abbrev pub NodesTell : List (List ℕ) → List (List ℕ) → List ℕ → Type 0
NodesTell own theirs node =
    (digit : ℕ) → digit < CHILD_COUNT → sum_of own (child node digit) ≡ sum_of theirs (child node digit)
    → beneath (child node digit) own ≡ beneath (child node digit) theirs

-- So it is of one list with itself, however long it is, and of any two that are equal beneath each child.
pub record EqualDigestsTell : Type 0 where
  pub whole : (digests : List (List ℕ)) (node : List ℕ) → NodesTell digests digests node
  pub each : (own theirs : List (List ℕ)) (node : List ℕ) → ((digit : ℕ) → digit < CHILD_COUNT
      → beneath (child node digit) own ≡ beneath (child node digit) theirs) → NodesTell own theirs node

-- a digest is in one of two sets and not in the other
abbrev pub IsInOneAlone : List (List ℕ) → List (List ℕ) → List ℕ → Type 0
IsInOneAlone own theirs digest =
    (Has own digest × (Has theirs digest → ⊥)) ⊎ (Has theirs digest × (Has own digest → ⊥))

-- a digest is beneath a child of a node whose sums in two sets are unequal
pub record IsFound (own theirs : List (List ℕ)) (node digest : List ℕ) : Type 0 where
  pub digit : ℕ
  pub unequal : Has (differing_at (child_sums own node) (child_sums theirs node)) digit
  pub within : is_beneath (child node digit) digest ≡ true

-- One step of the walk: a digest that is in one of two sets and not in the other, beneath a node, is beneath a child of
-- it whose sums are unequal.
abbrev pub StepFinds : Type 0
StepFinds =
    (own theirs : List (List ℕ)) (node digest : List ℕ) → NodesTell own theirs node → IsDigest digest
    → length node < DEEPEST → is_beneath node digest ≡ true → IsInOneAlone own theirs digest
    → IsFound own theirs node digest
