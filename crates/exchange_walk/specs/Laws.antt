-- What an answer finds, where its entries lie, and that a walk ends.
use Rattle.std.specs.Prelude.{◌≡◌, ◌<◌, ◌≤◌, ◌+◌, ◌⊎◌, ⊤, ℕ, true, List, [], ◌∷◌, length, Some}
use Rattle.octets.specs.Members.{Has}
use Rattle.walk_frames.specs.declared.node.TheConstants.{MOST_DIGITS}
use Rattle.walk_frames.specs.Entries.{EntryParts}
use Rattle.walk_frames.specs.Walks.{IsWalk}
use Rattle.exchange_tree.specs.Nodes.{is_beneath, IsDigest}
use Rattle.exchange_tree.specs.Sums.{child_sums}
use Rattle.exchange_tree.specs.Steps.{NodesTell, IsInOneAlone}
use Rattle.exchange_walk.specs.Answers.{answer_of, is_full, root_of}
use Rattle.exchange_walk.specs.Splits.{is_split, has_splits}
use Rattle.exchange_walk.specs.Hearing.{IsChildOfSplit, IsAnswerTo}

-- ---- what an answer finds

-- Each split of a walk tells the sums of its node's children over these digests.
abbrev pub IsToldOf : List (List ℕ) → List EntryParts → Type 0
IsToldOf digests walk =
    (split : EntryParts) (sums : List (List ℕ)) → Has walk split → split.sums ≡ Some sums
    → sums ≡ child_sums digests split.node

-- At each split of a walk, where the sums of a child are equal, so are the digests beneath it.
abbrev pub SplitsTell : List (List ℕ) → List (List ℕ) → List EntryParts → Type 0
SplitsTell own theirs walk =
    (split : EntryParts) → Has walk split → is_split split ≡ true → NodesTell own theirs split.node

-- No split of a walk has 63 digits.
abbrev pub CanBeAnswered : List EntryParts → Type 0
CanBeAnswered walk = (split : EntryParts) → Has walk split → is_split split ≡ true → length split.node < MOST_DIGITS

-- a digest lies beneath an entry of a walk
pub record IsBeneathEntry (walk : List EntryParts) (digest : List ℕ) : Type 0 where
  pub entry : EntryParts
  pub has : Has walk entry
  pub within : is_beneath entry.node digest ≡ true

-- a digest lies beneath a split of a walk
pub record IsBeneathSplit (walk : List EntryParts) (digest : List ℕ) : Type 0 where
  pub split : EntryParts
  pub has : Has walk split
  pub splits : is_split split ≡ true
  pub within : is_beneath split.node digest ≡ true

-- A digest that is in one of two sets and not in the other, beneath a split that was heard, is beneath an entry of the
-- answer, or that is full: the one set is that of who answers, the other that of which the splits tell the sums.
abbrev pub AnswerFinds : Type 0
AnswerFinds =
    (own theirs : List (List ℕ)) (heard : List EntryParts) (digest : List ℕ) → IsToldOf theirs heard
    → CanBeAnswered heard → SplitsTell own theirs heard → IsDigest digest → IsInOneAlone own theirs digest
    → IsBeneathSplit heard digest
    → (is_full own heard ≡ true) ⊎ IsBeneathEntry (answer_of own heard) digest

-- What a site says meets the premises on what is heard: its splits tell the sums of its own digests, and have fewer
-- than 63 digits. Every digest is beneath the split of the root.
pub record SaidIsTold : Type 0 where
  pub answer : (digests : List (List ℕ)) (heard : List EntryParts) → IsToldOf digests (answer_of digests heard)
  pub shallow : (digests : List (List ℕ)) (heard : List EntryParts) → CanBeAnswered (answer_of digests heard)
  pub root : (digests : List (List ℕ)) → IsToldOf digests (root_of digests)
  pub root_shallow : (digests : List (List ℕ)) → CanBeAnswered (root_of digests)
  pub all : (digests : List (List ℕ)) (digest : List ℕ) → IsBeneathSplit (root_of digests) digest

-- ---- where entries lie

-- Each entry of an answer is for a child of a split that was heard: it has one digit more.
pub record EntriesLieBeneath : Type 0 where
  pub children : (digests : List (List ℕ)) (heard : List EntryParts) → IsAnswerTo heard (answer_of digests heard)
  pub deeper : (said : List EntryParts) (node : List ℕ) (child : IsChildOfSplit said node)
      → length node ≡ length child.split.node + 1

-- ---- that a walk ends

-- Each of some walks answers the one before it, which has splits, the first of them a walk that was said.
abbrev pub IsChain : List EntryParts → List (List EntryParts) → Type 0
IsChain said [] = ⊤
IsChain said (heard ∷ later) = IsWalk said × (has_splits said ≡ true) × IsAnswerTo said heard × IsChain heard later

-- Each is the answer of some set to the one before it.
abbrev pub IsChainOfAnswers : List EntryParts → List (List EntryParts) → Type 0
IsChainOfAnswers said [] = ⊤
IsChainOfAnswers said (heard ∷ later) =
    (has_splits said ≡ true) × ((digests : List (List ℕ)) × (heard ≡ answer_of digests said))
    × IsChainOfAnswers heard later

-- Behind the first walk there are at most 64, whoever says them, and between sites that answer so; and the answer to
-- the sums of an equal set is empty.
pub record WalkEnds : Type 0 where
  pub accepted : (first : List EntryParts) (later : List (List EntryParts)) → IsChain first later → length later ≤ 64
  pub answers : (first : List EntryParts) (later : List (List EntryParts)) → IsWalk first
      → IsChainOfAnswers first later → length later ≤ 64
  pub equal : (digests : List (List ℕ)) (heard : List EntryParts) → IsToldOf digests heard
      → answer_of digests heard ≡ []
