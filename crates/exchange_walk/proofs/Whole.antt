-- What a whole walk finds: at each turn a place, or a split that the next turn answers.
use Rattle.std.proofs.Common.{inl, inr, ◌≡◌, ◌⊎◌, ℕ, List, [], ◌∷◌, Bool, true, false, refl, sym, ◌∙◌}
use Rattle.std.proofs.lemmas.Bool.{false≢true}
use Rattle.std.specs.List.{list_any}
use Rattle.octets.specs.Members.{Has}
use Rattle.walk_frames.specs.Entries.{EntryParts}
use Rattle.exchange_tree.specs.Nodes.{IsDigest}
use Rattle.exchange_walk.specs.Answers.{answer_of, is_full, root_of}
use Rattle.exchange_walk.specs.Splits.{is_split, has_splits}
use Rattle.exchange_walk.specs.Laws.{IsToldOf, CanBeAnswered, IsBeneathSplit, IsBeneathEntry}
use Rattle.exchange_walk.specs.WholeWalks.{answers_in, TurnsTell, IsAloneThroughout, IsEnded, WasFull, IsBeneathPlace}
use Rattle.exchange_walk.specs.WholeWalks.{WholeWalkFinds}
use Rattle.exchange_walk.proofs.Members.{has_passes}
use Rattle.exchange_walk.proofs.Finding.{answer_finds, said_is_told}

-- what was found in later walks
found_later : (walk : List EntryParts) (walks : List (List EntryParts)) (digest : List ℕ) → IsBeneathPlace walks digest
    → IsBeneathPlace (walk ∷ walks) digest
found_later walk walks digest found = record {
  walk = found.walk;
  said = inr found.said;
  entry = found.entry;
  has = found.has;
  place = found.place;
  within = found.within;
}

finds : (theirs : List (List ℕ)) (said : List EntryParts) (later : List (List (List ℕ))) (digest : List ℕ)
    → IsToldOf theirs said → CanBeAnswered said → TurnsTell theirs said later → IsDigest digest
    → IsAloneThroughout theirs later digest → IsEnded said later → IsBeneathSplit said digest
    → WasFull said later ⊎ IsBeneathPlace (answers_in said later) digest
finds theirs said [] digest told can tell is alone ended beneath =
    absurd (false≢true (sym ended ∙ has_passes is_split said beneath.split beneath.has beneath.splits))
finds theirs said (own ∷ later) digest told can tell is alone ended beneath =
    by (answer_finds own theirs said digest told can tell.0 is alone.0 beneath)
    (finds own (answer_of own said) later digest (said_is_told.answer own said) (said_is_told.shallow own said) tell.1 is
    alone.1 ended)
  where
    further : WasFull (answer_of own said) later ⊎ IsBeneathPlace (answers_in (answer_of own said) later) digest
        → WasFull said (own ∷ later) ⊎ IsBeneathPlace (answers_in said (own ∷ later)) digest
    further (inl full) = inl (inr full)
    further (inr found) = inr (found_later (answer_of own said) (answers_in (answer_of own said) later) digest found)

    at : (entry : IsBeneathEntry (answer_of own said) digest) → (b : Bool) → is_split entry.entry ≡ b
        → (IsBeneathSplit (answer_of own said) digest
        → WasFull (answer_of own said) later ⊎ IsBeneathPlace (answers_in (answer_of own said) later) digest)
        → WasFull said (own ∷ later) ⊎ IsBeneathPlace (answers_in said (own ∷ later)) digest
    at entry true e rest =
        further (rest (record { split = entry.entry; has = entry.has; splits = e; within = entry.within }))
    at entry false e rest = inr (record {
      walk = answer_of own said;
      said = inl refl;
      entry = entry.entry;
      has = entry.has;
      place = e;
      within = entry.within;
    })

    by : (is_full own said ≡ true) ⊎ IsBeneathEntry (answer_of own said) digest
        → (IsBeneathSplit (answer_of own said) digest
        → WasFull (answer_of own said) later ⊎ IsBeneathPlace (answers_in (answer_of own said) later) digest)
        → WasFull said (own ∷ later) ⊎ IsBeneathPlace (answers_in said (own ∷ later)) digest
    by (inl full) rest = inl (inl full)
    by (inr entry) rest = at entry (is_split entry.entry) refl rest

pub whole_walk_finds : WholeWalkFinds
whole_walk_finds first later digest tell is alone ended =
    finds first (root_of first) later digest (said_is_told.root first) (said_is_told.root_shallow first) tell is alone
    ended (said_is_told.all first digest)
