-- What a call that takes an operation for a pass, or makes a correction for it, leaves of the hub and of the pass.
use Rattle.std.specs.Prelude.{ℕ, ◌≡◌, ◌++◌, ◌∷◌, ◌⊎◌, [], List, Result, Ok, Err}
use Rattle.operation.specs.declared.op.Op.{Op}
use Rattle.operation.specs.declared.op.Op.TheVariants.{Correction as a_correction}
use Rattle.operation.specs.declared.target.Target.{Target}
use Rattle.operation.specs.Parts.{CorrectionParts}
use Rattle.operation.specs.Spelling.{digest_of}
use Rattle.site_state.specs.Site.{Map, IsClash}
use Rattle.site_hub.specs.declared.fault.HubFault.{HubFault}
use Rattle.site_hub.specs.declared.fault.HubFault.TheVariants.{Busy, Collision, Memory, StampsSpent, Pending}
use Rattle.site_hub.specs.declared.fault.HubFault.TheVariants.{BadCorrection}
use Rattle.site_hub.specs.Fault.{IsTurnFault}
use Rattle.site_hub.specs.History.{set_of, entry_of, EndsWith}
use Rattle.site_hub.specs.Hub.{Desk, Seat, News, WasHeld, HasStayed, HasKept, IsTurn, IsLater, IsTaken, IsClashed}
use Rattle.site_hub.specs.Refused.{Tells}
use Rattle.site_hub.specs.Stamps.{IsNext, IsBarred, HasLesser}

-- A pass after a call: the same one, which has seen no less and has all of its own; and what was refused is counted.
pub record GoesOn {A : Type 0} (before after : Seat) (result : Result A HubFault) : Type 0 where
  pub later : IsLater before after
  pub counted : Tells result before.refused after.refused

-- A pass took an operation: its entry is the last that the pass has seen, and its digest one more of the pass's own.
pub record Takes (opening : Map) (before : Seat) (op : Op) (news : News) (later : Seat) : Type 0 where
  pub told : news.reached ≡ later.seen
  pub taken : IsTaken opening before op news.taken later
  pub seen : EndsWith later.seen (entry_of before.number op)
  pub mine : later.mine ≡ before.mine ++ digest_of op ∷ []

-- A pass did not take an operation: it stays, unless the entry is pending and the digest is one more of its own.
pub record Refuses (opening : Map) (before : Seat) (op : Op) (later : Seat) (e : HubFault) : Type 0 where
  pub pending : e ≡ Pending → (later.mine ≡ before.mine ++ digest_of op ∷ []) × (later.seen ≡ before.seen)
  pub collision : e ≡ Collision → IsClashed opening before op
  pub kept : (e ≡ Pending) ⊎ HasKept before later
  pub fault : (e ≡ Busy) ⊎ (e ≡ Collision) ⊎ (e ≡ Memory) ⊎ (e ≡ Pending)

-- A pass was refused a correction: it stays, unless the entry of one that came next is pending.
pub record RefusesCorrection (number : ℕ) (opening : Map) (before : Seat) (target : Target) (tag : ℕ) (value : List ℕ)
    (later : Seat) (e : HubFault) : Type 0 where
  pub stamps_spent : e ≡ StampsSpent → IsNext number opening before target tag value (Err StampsSpent)
  pub pending : e ≡ Pending → (made : CorrectionParts) × IsNext number opening before target tag value (Ok made)
      × (later.mine ≡ before.mine ++ digest_of (a_correction made) ∷ []) × (later.seen ≡ before.seen)
  pub collision : e ≡ Collision → IsBarred number opening before target tag value
  pub kept : (e ≡ Pending) ⊎ HasKept before later
  pub fault : (e ≡ BadCorrection) ⊎ (e ≡ StampsSpent) ⊎ (e ≡ Busy) ⊎ (e ≡ Collision) ⊎ (e ≡ Memory) ⊎ (e ≡ Pending)

-- ---- at the keeper

-- a keeper, and a pass that is at it
pub record AtDesk : Type 0 where
  pub desk : Desk
  pub seat : Seat

abbrev pub at_desk : Desk → Seat → AtDesk
at_desk desk seat = record { desk = desk; seat = seat }

-- A keeper took an operation at a pass's turn: its entry is the last of the history, which is published and seen whole.
pub record TakesAt (opening : Map) (before : AtDesk) (op : Op) (news : News) (later : AtDesk) : Type 0 where
  pub turn : IsTurn opening before.seat.seen before.desk.all
  pub taken : WasHeld (set_of opening before.desk.all) op news.taken
  pub history : later.desk.all ≡ before.desk.all ++ entry_of before.seat.number op ∷ []
  pub published : later.desk.published ≡ later.desk.all
  pub told : news.reached ≡ later.desk.all
  pub seen : later.seat.seen ≡ later.desk.all
  pub mine : later.seat.mine ≡ before.seat.mine ++ digest_of op ∷ []

-- an entry of a pass is the last of the history and not published, though all before it is
pub record Pends (before : AtDesk) (op : Op) (later : AtDesk) : Type 0 where
  pub history : later.desk.all ≡ before.desk.all ++ entry_of before.seat.number op ∷ []
  pub unpublished : later.desk.published ≡ before.desk.all
  pub mine : later.seat.mine ≡ before.seat.mine ++ digest_of op ∷ []
  pub seen : later.seat.seen ≡ before.seat.seen

-- the history and the pass stay, though what was pending may have been published
pub record Stays (before later : AtDesk) : Type 0 where
  pub desk : HasStayed before.desk later.desk
  pub seat : HasKept before.seat later.seat

-- A keeper did not take an operation at a pass's turn: all stays, unless its entry is pending.
pub record RefusesAt (opening : Map) (before : AtDesk) (op : Op) (later : AtDesk) (e : HubFault) : Type 0 where
  pub pending : e ≡ Pending → Pends before op later
  pub collision : e ≡ Collision → IsTurn opening before.seat.seen before.desk.all
      × IsClash (set_of opening before.desk.all) op
  pub kept : (e ≡ Pending) ⊎ Stays before later
  pub fault : (e ≡ Busy) ⊎ (e ≡ Collision) ⊎ (e ≡ Memory) ⊎ (e ≡ Pending)

-- a correction is the one that comes next, and has a greater counter than each in what was seen
pub record MakesNext (next : Result CorrectionParts HubFault) (seen : Map) (one : CorrectionParts) : Type 0 where
  pub made : Ok one ≡ next
  pub counter : HasLesser seen one.stamp.counter

-- A keeper made no correction for a pass, where this one came next, or none did: all stays, unless its entry is
-- pending.
pub record MakesNone (opening : Map) (before : AtDesk) (next : Result CorrectionParts HubFault) (later : AtDesk)
    (e : HubFault) : Type 0 where
  pub turn : IsTurnFault e → IsTurn opening before.seat.seen before.desk.all
  pub stamps_spent : e ≡ StampsSpent → next ≡ Err StampsSpent
  pub pending : e ≡ Pending → (made : CorrectionParts) × (next ≡ Ok made) × Pends before (a_correction made) later
  pub collision : e ≡ Collision → (made : CorrectionParts) × (next ≡ Ok made)
      × IsClash (set_of opening before.desk.all) (a_correction made)
  pub kept : (e ≡ Pending) ⊎ Stays before later
  pub fault : (e ≡ BadCorrection) ⊎ (e ≡ StampsSpent) ⊎ (e ≡ Busy) ⊎ (e ≡ Collision) ⊎ (e ≡ Memory) ⊎ (e ≡ Pending)
