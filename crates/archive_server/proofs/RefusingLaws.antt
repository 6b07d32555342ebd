-- Why a store is refused, and a load.
use Rattle.std.proofs.Common.{◌≡◌, ◌≢◌, ◌⊎◌, ℕ, List, Option, Some, inl, inr, Result, Ok, Err, IfOk, IfErr, MatchResult}
use Rattle.std.proofs.Common.{ap, refl, sym, subst}
use Rattle.devices.specs.Failures.{Rose}
use Rattle.operation.specs.declared.op.Op.{Op}
use Rattle.operation.specs.declared.op.Op.TheVariants.{Content as a_content, Correction as a_correction}
use Rattle.operation.specs.declared.taken.Taken.{Taken}
use Rattle.operation.specs.Parts.{ContentParts}
use Rattle.operation.specs.RecordParts.{ContentRecordParts, content_record}
use Rattle.op_shelf.specs.declared.fault.ShelfFault.{ShelfFault}
use Rattle.op_shelf.specs.declared.fault.ShelfFault.TheVariants as shelf_faults
use Rattle.site_hub.specs.Hub.{Seat}
use Rattle.hub_exchange.specs.Putting.{IsLent}
use Rattle.archive_model.specs.Listed.{IsOfRecord}
use Rattle.association_run.specs.Port.{IsLoadFault}
use Rattle.association_services.specs.declared.reply.PortFault.{PortFault}
use Rattle.association_services.specs.declared.reply.PortFault.TheVariants.{Memory, Busy, Collision, Shelf}
use Rattle.archive_server.specs.Fault.{port_fault_of}
use Rattle.archive_server.specs.Refusing.{RefusesStore, IsNoneOf, IsUnlike, RefusesLoadOf}

-- What the hub refuses to publish is refused by the hub.
pub hub_refused : {P : Type 0} (these : P → Type 0) (refuses : P → P → Op → ShelfFault → Type 0) (before later : Seat)
    (op : Op) (reply : Result Taken PortFault) → reply ≢ Err Shelf
    → (reply ≡ Err Busy → Rose before.refused later.refused) → IfErr reply (RefusesStore these refuses before later op)
hub_refused these refuses before later op (Ok taken) own busy = tt
hub_refused these refuses before later op (Err fault) own busy =
    inr (record { own = λ is. own (ap Err is); busy = λ is. busy (ap Err is) })

-- ---- loads

-- no content of it is one of the record
none_of : (asked : ContentRecordParts) (op : Op)
    → ((content : ContentParts) → op ≡ a_content content → content_record content ≢ asked) → IsNoneOf asked (Some op)
none_of asked (a_content c) none = none c refl
none_of asked (a_correction k) none = tt

abbrev no_content : PortFault → Result ContentParts PortFault
no_content fault = Err fault

-- What was found and not loaded is unlike the record.
pub unlike_found : (asked : ContentRecordParts) (op : Op) (answer : Result ContentParts PortFault)
    → (answer ≡ Err Shelf → (content : ContentParts) → op ≡ a_content content → content_record content ≢ asked)
    → IfErr answer (λ fault. (fault ≡ Memory) ⊎ (fault ≡ Shelf)) → IfErr answer (IsUnlike asked (Some op))
unlike_found asked op (Ok content) none fault = tt
unlike_found asked op (Err fault) none is = elim is as (λ _. IsUnlike asked (Some op) fault) [
  | inl memory ↦ subst (IsUnlike asked (Some op)) (sym memory) tt
  | inr shelf ↦ subst (IsUnlike asked (Some op)) (sym shelf) (none_of asked op (none (ap no_content shelf)))
]

unlike_fault : (asked : ContentRecordParts) (found : Option Op) (fault : PortFault) → IsUnlike asked found fault
    → IsLoadFault fault
unlike_fault asked found Memory is = inl (inl refl)
unlike_fault asked found Busy is = elim is [ ]
unlike_fault asked found Collision is = elim is [ ]
unlike_fault asked found Shelf is = inr refl

-- What is unlike it is told as a load is.
pub brought_replies : (asked : ContentRecordParts) (found : Option Op) (answer : Result ContentParts PortFault)
    → IfOk answer (IsOfRecord asked) → IfErr answer (IsUnlike asked found)
    → MatchResult answer (IsOfRecord asked) IsLoadFault
brought_replies asked found (Ok content) is unlike = is
brought_replies asked found (Err fault) is unlike = unlike_fault asked found fault unlike

-- So is what the shelf refused.
pub shelf_replies : (fault : ShelfFault) → IsLoadFault (port_fault_of fault)
shelf_replies (shelf_faults.Store _) = inr refl
shelf_replies shelf_faults.BadRow = inr refl
shelf_replies shelf_faults.Memory = inl (inl refl)

-- And that is why the load is refused.
pub brought_refused : {P : Type 0} (refuses : P → P → List ℕ → ShelfFault → Type 0)
    (has_loaded : P → P → List ℕ → Option Op → Type 0) (before after : P) (asked : ContentRecordParts) (found : Option Op)
    (answer : Result ContentParts PortFault) → has_loaded before after asked.digest found
    → IfErr answer (IsUnlike asked found)
    → IfErr answer (RefusesLoadOf (IsLent (Some before)) refuses has_loaded asked)
brought_refused refuses has_loaded before after asked found (Ok content) loaded unlike = tt
brought_refused refuses has_loaded before after asked found (Err fault) loaded unlike =
    inr (found, record { before = before; named = refl; after = after; loaded = loaded }, unlike)

pub shelf_refused : {P : Type 0} (refuses : P → P → List ℕ → ShelfFault → Type 0)
    (has_loaded : P → P → List ℕ → Option Op → Type 0) (before after : P) (asked : ContentRecordParts)
    (cause : ShelfFault) (fault : PortFault) → refuses before after asked.digest cause → fault ≡ port_fault_of cause
    → RefusesLoadOf (IsLent (Some before)) refuses has_loaded asked fault
shelf_refused refuses has_loaded before after asked cause fault refused told =
    inl (record { before = before; named = refl; after = after; cause = cause; refused = refused; told = told })
