-- What lies under UIDs.
use Rattle.std.specs.Prelude.{◌≡◌, ◌==◌, ℕ, List, Bool, true, false, length, map, not}
use Rattle.std.specs.List.{filter}
use Rattle.std.specs.List.Sorted.{IsSortedBy, IsPartitionPoint}
use Rattle.std.specs.Ordering.{is_lt, is_le}
use Rattle.octets.specs.Texts.{same, text_cmp}
use Rattle.site_tables.specs.declared.under.Under.{Under}

-- a UID, and what lies under it
abbrev pub pair_of : {T : Type 0} → Under T → List ℕ × T
pair_of e = (e.uid.now, e.held.now)

abbrev pub pairs : {T : Type 0} → List (Under T) → List (List ℕ × T)
pairs entries = map pair_of entries

-- whether it is this UID
abbrev pub is_at : {T : Type 0} → List ℕ → List ℕ × T → Bool
is_at uid pair = same pair.0 uid

-- what lies under a UID, in the order given
abbrev pub held_under : {T : Type 0} → List ℕ → List (List ℕ × T) → List T
held_under uid some = map (λ p. p.1) (filter (is_at uid) some)

-- whether anything lies under a UID
abbrev pub has_under : {T : Type 0} → List ℕ → List (List ℕ × T) → Bool
has_under uid some = not (length (held_under uid some) == 0)

-- a text under itself
abbrev pub own_pair : List ℕ → List ℕ × List ℕ
own_pair text = (text, text)

-- no UID is less than the one before it
abbrev pub AreInOrder : {T : Type 0} → List (Under T) → Type 0
AreInOrder entries = IsSortedBy (λ a b. is_lt (text_cmp a.uid.now b.uid.now)) entries

-- these are in the order of their UIDs, and what lies under each UID lies there among some pairs, in their order
pub record Holds {T : Type 0} (some : List (List ℕ × T)) (entries : List (Under T)) : Type 0 where
  pub order : AreInOrder entries
  pub each : (uid : List ℕ) → held_under uid (pairs entries) ≡ held_under uid some

-- a place behind the UIDs that are less than this one, and before all others
abbrev pub IsStart : {T : Type 0} → List (Under T) → List ℕ → ℕ → Type 0
IsStart entries uid place =
    IsPartitionPoint (λ e. is_lt (text_cmp e.uid.now uid) ≡ true) (λ e. is_lt (text_cmp e.uid.now uid) ≡ false)
    entries place

-- a place behind the UIDs that are this one or less, and before all others
abbrev pub IsEnd : {T : Type 0} → List (Under T) → List ℕ → ℕ → Type 0
IsEnd entries uid place =
    IsPartitionPoint (λ e. is_le (text_cmp e.uid.now uid) ≡ true) (λ e. is_le (text_cmp e.uid.now uid) ≡ false)
    entries place
