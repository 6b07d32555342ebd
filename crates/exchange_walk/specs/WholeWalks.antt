-- What a whole walk finds.
use Rattle.std.specs.Prelude.{◌≡◌, ◌⊎◌, ⊤, ℕ, true, false, List, [], ◌∷◌}
use Rattle.octets.specs.Members.{Has}
use Rattle.walk_frames.specs.Entries.{EntryParts}
use Rattle.exchange_tree.specs.Nodes.{is_beneath, IsDigest}
use Rattle.exchange_tree.specs.Steps.{IsInOneAlone}
use Rattle.exchange_walk.specs.Answers.{answer_of, is_full, root_of}
use Rattle.exchange_walk.specs.Splits.{is_split, has_splits}
use Rattle.exchange_walk.specs.Laws.{SplitsTell}

-- The sets of a walk are those by which each next WALK is answered, the two sites by turns, as each was at its turn. What
-- a site answers by, the other compares at the next turn.

-- the walks that are said behind one
abbrev pub answers_in : List EntryParts → List (List (List ℕ)) → List (List EntryParts)
answers_in said [] = []
answers_in said (own ∷ later) = answer_of own said ∷ answers_in (answer_of own said) later

-- At each turn, where sums that are compared are equal, so are the digests beneath.
abbrev pub TurnsTell : List (List ℕ) → List EntryParts → List (List (List ℕ)) → Type 0
TurnsTell theirs said [] = ⊤
TurnsTell theirs said (own ∷ later) = SplitsTell own theirs said × TurnsTell own (answer_of own said) later

-- At each turn a digest is in one of the two sets that are compared and not in the other.
abbrev pub IsAloneThroughout : List (List ℕ) → List (List (List ℕ)) → List ℕ → Type 0
IsAloneThroughout theirs [] digest = ⊤
IsAloneThroughout theirs (own ∷ later) digest = IsInOneAlone own theirs digest × IsAloneThroughout own later digest

-- The last walk has no splits.
abbrev pub IsEnded : List EntryParts → List (List (List ℕ)) → Type 0
IsEnded said [] = has_splits said ≡ false
IsEnded said (own ∷ later) = IsEnded (answer_of own said) later

-- An answer of the walk was full.
abbrev pub WasFull : List EntryParts → List (List (List ℕ)) → Type 0
WasFull said [] = ⊥
WasFull said (own ∷ later) = (is_full own said ≡ true) ⊎ WasFull (answer_of own said) later

-- a digest lies beneath a place of one of some walks
pub record IsBeneathPlace (walks : List (List EntryParts)) (digest : List ℕ) : Type 0 where
  pub walk : List EntryParts
  pub said : Has walks walk
  pub entry : EntryParts
  pub has : Has walk entry
  pub place : is_split entry ≡ false
  pub within : is_beneath entry.node digest ≡ true

-- A digest that throughout a walk from the root is in one of the two sets and not in the other, however they change
-- otherwise, is beneath a place once it has ended, or an answer was full.
abbrev pub WholeWalkFinds : Type 0
WholeWalkFinds =
    (first : List (List ℕ)) (later : List (List (List ℕ))) (digest : List ℕ) → TurnsTell first (root_of first) later
    → IsDigest digest → IsAloneThroughout first later digest → IsEnded (root_of first) later
    → WasFull (root_of first) later ⊎ IsBeneathPlace (answers_in (root_of first) later) digest
