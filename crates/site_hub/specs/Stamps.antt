-- The corrections that a hub makes.
use Rattle.std.specs.Prelude.{ℕ, ◌+◌, ◌==◌, ◌≡◌, ◌<◌, ◌++◌, ◌∷◌, [], List, Bool, Result, Ok, Err, if◌then◌else◌}
use Rattle.operation.specs.declared.op.Op.TheVariants.{Correction as a_correction}
use Rattle.operation.specs.declared.target.Target.{Target}
use Rattle.operation.specs.Parts.{CorrectionParts}
use Rattle.operation.specs.Corrections.{is_correction}
use Rattle.archive_model.specs.Members.{Has}
use Rattle.site_state.specs.Site.{Map, ops_of, top_counter_of, IsClash}
use Rattle.site_hub.specs.declared.entry.Entry.{Entry}
use Rattle.site_hub.specs.History.{set_of, entry_of}
use Rattle.site_hub.specs.Hub.{Seat, IsTurn}
use Rattle.site_hub.specs.declared.fault.HubFault.{HubFault}
use Rattle.site_hub.specs.declared.fault.HubFault.TheVariants.{StampsSpent, BadCorrection}

-- the greatest counter that a stamp may have
abbrev pub LAST_COUNTER : ℕ
LAST_COUNTER = 18446744073709551615

-- a correction of this counter, made at a site of this number
abbrev pub made_with : ℕ → ℕ → Target → ℕ → List ℕ → CorrectionParts
made_with counter number target tag value = record {
  target = target;
  tag = tag;
  value = value;
  stamp =
      record { counter = counter; site = number };
}

-- whether there is a correction of these parts at all, from counter 1 on
abbrev pub may_be_made : ℕ → Target → ℕ → List ℕ → Bool
may_be_made number target tag value = is_correction (made_with 1 number target tag value)

-- the correction that comes next over a set, whose counter is one more than the greatest; or the first reason why there
-- is none
abbrev pub next_correction : ℕ → Map → Target → ℕ → List ℕ → Result CorrectionParts HubFault
next_correction number m target tag value =
    if may_be_made number target tag value then (
    if top_counter_of (ops_of m) == LAST_COUNTER then Err StampsSpent
    else Ok (made_with (top_counter_of (ops_of m) + 1) number target tag value))
    else Err BadCorrection

-- each correction of a set has a lesser counter
abbrev pub HasLesser : Map → ℕ → Type 0
HasLesser m counter = (held : CorrectionParts) → Has (ops_of m) (a_correction held) → held.stamp.counter < counter

-- What came next at a pass's turn, a correction or the first reason why there is none.
pub record IsNext (number : ℕ) (opening : Map) (before : Seat) (target : Target) (tag : ℕ) (value : List ℕ)
    (outcome : Result CorrectionParts HubFault) : Type 0 where
  pub turn : List Entry
  pub comes : IsTurn opening before.seen turn
  pub next : next_correction number (set_of opening turn) target tag value ≡ outcome

-- A correction was made for a pass: it came next at its turn, its entry comes next, and its counter is greater than
-- each that the pass had seen.
pub record IsMade (number : ℕ) (opening : Map) (before : Seat) (target : Target) (tag : ℕ) (value : List ℕ)
    (made : CorrectionParts) (later : Seat) : Type 0 where
  pub turn : List Entry
  pub comes : IsTurn opening before.seen turn
  pub next : next_correction number (set_of opening turn) target tag value ≡ Ok made
  pub seen : later.seen ≡ turn ++ entry_of before.number (a_correction made) ∷ []
  pub counter : HasLesser (set_of opening before.seen) made.stamp.counter

-- A correction was not made for a pass: at its turn another operation of its digest was held.
pub record IsBarred (number : ℕ) (opening : Map) (before : Seat) (target : Target) (tag : ℕ) (value : List ℕ) : Type
    0 where
  pub turn : List Entry
  pub made : CorrectionParts
  pub comes : IsTurn opening before.seen turn
  pub next : next_correction number (set_of opening turn) target tag value ≡ Ok made
  pub clash : IsClash (set_of opening turn) (a_correction made)

-- the correction that comes next has a greater counter than each that is held
abbrev pub CountersRise : Type 0
CountersRise =
    (number : ℕ) (m : Map) (target : Target) (tag : ℕ) (value : List ℕ) (made held : CorrectionParts)
    → next_correction number m target tag value ≡ Ok made → Has (ops_of m) (a_correction held) → held.stamp.counter <
    made.stamp.counter
