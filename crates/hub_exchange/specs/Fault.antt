-- What the faults of a hub are to a round.
use Rattle.std.specs.Prelude.{◌≡◌, ◌⊎◌, ℕ, List, Option, Some, Result, Ok, Err}
use Rattle.operation.specs.declared.op.Op.{Op}
use Rattle.operation.specs.declared.taken.Taken.{Taken}
use Rattle.op_shelf.specs.declared.fault.ShelfFault.{ShelfFault}
use Rattle.records.specs.StandIn.{op_in}
use Rattle.site_state.specs.Site.{Map, held_at}
use Rattle.site_hub.specs.declared.fault.HubFault.{HubFault}
use Rattle.site_hub.specs.declared.fault.HubFault.TheVariants as hub_faults
use Rattle.site_hub.specs.History.{set_of}
use Rattle.site_hub.specs.Hub.{News, Seat}
use Rattle.site_hub.specs.Fault.{IsLookFault}
use Rattle.site_hub.specs.Refused.{TellsFault}
use Rattle.site_hub.specs.Taking.{Refuses}
use Rattle.exchange.specs.declared.fault.HolderFault.{HolderFault}
use Rattle.exchange.specs.declared.fault.HolderFault.TheVariants.{Memory, Refused}
use Rattle.hub_exchange.specs.Putting.{RefusesPut, RefusesRecord}
use Rattle.hub_exchange.specs.Putting.{refusal_of as refusal_of_shelf}

-- What a fault of a hub is to a round: what is not published yet could not be, for want of memory. A take and a look
-- have none of the last three.
abbrev pub refusal_of : HubFault → HolderFault
refusal_of hub_faults.Busy = Refused
refusal_of hub_faults.Collision = Refused
refusal_of hub_faults.Memory = Memory
refusal_of hub_faults.Pending = Memory
refusal_of hub_faults.StampsSpent = Refused
refusal_of hub_faults.Torn = Refused
refusal_of hub_faults.BadCorrection = Refused

-- Why a pass does not tell what it holds: its look was refused memory, or was busy, which was counted for it.
pub record RefusesLook (before after : Seat) (fault : HolderFault) : Type 0 where
  pub cause : HubFault
  pub of_look : IsLookFault cause
  pub counted : TellsFault before.refused after.refused cause
  pub told : fault ≡ refusal_of cause

-- Why the hub does not take for a pass what its shelf keeps: what refused it was counted, or is a clash, or is want of
-- memory.
pub record RefusesPublish (opening : Map) (before after : Seat) (op : Op) (fault : HolderFault) : Type 0 where
  pub cause : HubFault
  pub refuses : Refuses opening before op after cause
  pub counted : TellsFault before.refused after.refused cause
  pub told : fault ≡ refusal_of cause

-- Why the hub does not take the record of what its shelf keeps: it did not publish what stands for it, or memory was
-- refused for the record.
abbrev pub RefusesToPublish : Map → Seat → Seat → Op → HolderFault → Type 0
RefusesToPublish opening before after op fault = RefusesPublish opening before after (op_in op) fault ⊎ (fault ≡ Memory)

-- Why a pass does not take an operation, and has seen nothing more: its way to the shelf, which is one of these, refused
-- it, or the hub did.
pub record RefusesAtHub {P : Type 0} (these : P → Type 0) (refuses : P → P → Op → ShelfFault → Type 0) (opening : Map)
    (before after : Seat) (op : Op) (fault : HolderFault) : Type 0 where
  pub seen : after.seen ≡ before.seen
  pub why : RefusesPut these refuses refusal_of_shelf op fault ⊎ RefusesToPublish opening before after op fault

-- Why a pass does not load what it holds under a digest: its look was refused, or no operation of the record came over
-- its way to the shelf, which is one of these.
abbrev pub RefusesLoadAtHub : {P : Type 0} → (P → Type 0) → (P → P → List ℕ → ShelfFault → Type 0)
    → (P → P → List ℕ → Option Op → Type 0) → Map → Seat → Seat → List ℕ → HolderFault → Type 0
RefusesLoadAtHub these refuses has_loaded opening before after digest fault = RefusesLook before after fault
    ⊎ ((held : Op) × (held_at (set_of opening after.seen) digest ≡ Some held)
    × RefusesRecord these refuses has_loaded held digest fault)

-- what the answer to a take is to a round
abbrev pub reply_to : Result News HubFault → Result Taken HolderFault
reply_to (Ok told) = Ok told.taken
reply_to (Err fault) = Err (refusal_of fault)
