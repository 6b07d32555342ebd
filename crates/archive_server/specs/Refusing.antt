-- What the lines of a server say of what it refuses.
use Rattle.std.specs.Prelude.{◌≡◌, ◌≢◌, ◌⊎◌, ⊤, ℕ, List, Option, Some, None, codes}
use Rattle.devices.specs.Failures.{Rose}
use Rattle.operation.specs.declared.op.Op.{Op}
use Rattle.operation.specs.declared.op.Op.TheVariants.{Content as a_content, Correction as a_correction}
use Rattle.operation.specs.RecordParts.{ContentRecordParts, content_record}
use Rattle.op_shelf.specs.declared.fault.ShelfFault.{ShelfFault}
use Rattle.site_hub.specs.Hub.{Seat}
use Rattle.hub_exchange.specs.Putting.{RefusesPut, RefusesLoad, HasAnswered}
use Rattle.association_services.specs.declared.reply.PortFault.{PortFault}
use Rattle.association_services.specs.declared.reply.PortFault.TheVariants as site
use Rattle.archive_server.specs.declared.refusing.Service.{Service}
use Rattle.archive_server.specs.declared.refusing.Service.TheVariants.{Store, Find, Get}
use Rattle.archive_server.specs.declared.refusing.Why.{Why}
use Rattle.archive_server.specs.declared.refusing.Why.TheVariants.{Site, Shelf}
use Rattle.archive_server.specs.Cause.{words_of_shelf}
use Rattle.archive_server.specs.Fault.{port_fault_of}

-- the status of a store that is refused, in hexadecimal digits (PS3.4, section B.2.3)
abbrev pub status_of_store : PortFault → List ℕ
status_of_store site.Collision = codes "C000"
status_of_store site.Memory = codes "A700"
status_of_store site.Busy = codes "A700"
status_of_store site.Shelf = codes "A700"

-- that of a request (PS3.4, sections C.4.1.1.4 and C.4.3.1.4)
abbrev pub status_of : Service → PortFault → List ℕ
status_of Store fault = status_of_store fault
status_of Find fault = codes "A700"
status_of Get fault = codes "A702"

-- what a request is called
abbrev pub word_of : Service → List ℕ
word_of Store = codes "store"
word_of Find = codes "find"
word_of Get = codes "get"

-- what a site refuses for
abbrev pub words_of_site : PortFault → List ℕ
words_of_site site.Memory = codes "memory was refused"
words_of_site site.Busy = codes "the site was busy"
words_of_site site.Collision = codes "another operation has its digest"
words_of_site site.Shelf = codes "it could not be kept"

-- what a load is refused for
abbrev pub words_of_load : PortFault → List ℕ
words_of_load site.Shelf = codes "it could not be brought"
words_of_load site.Memory = words_of_site site.Memory
words_of_load site.Busy = words_of_site site.Busy
words_of_load site.Collision = words_of_site site.Collision

-- what the archive refuses for: of a shelf, what the shelf had
abbrev pub words_of : Why → List ℕ
words_of (Site fault) = words_of_site fault
words_of (Shelf fault) = words_of_shelf fault

-- The hub refused to publish: that is never told as a failure of the shelf, and as a busy site only where that was
-- counted.
pub record RefusesAsHub (before after : Seat) (fault : PortFault) : Type 0 where
  pub own : fault ≢ site.Shelf
  pub busy : fault ≡ site.Busy → Rose before.refused after.refused

-- Why a store is refused: the way to the shelf, which is one of these, refused to put the operation, or the hub to
-- publish it.
abbrev pub RefusesStore : {P : Type 0} → (P → Type 0) → (P → P → Op → ShelfFault → Type 0) → Seat → Seat → Op
    → PortFault → Type 0
RefusesStore these refuses before after op fault =
    RefusesPut these refuses port_fault_of op fault ⊎ RefusesAsHub before after fault

-- There is none, or it is no content of a record.
abbrev pub IsNoneOf : ContentRecordParts → Option Op → Type 0
IsNoneOf asked None = ⊤
IsNoneOf asked (Some (a_content c)) = content_record c ≢ asked
IsNoneOf asked (Some (a_correction k)) = ⊤

-- why what was found is not loaded: it is no content of the record, or memory was refused for its own
abbrev pub IsUnlike : ContentRecordParts → Option Op → PortFault → Type 0
IsUnlike asked found site.Memory = ⊤
IsUnlike asked found site.Busy = ⊥
IsUnlike asked found site.Collision = ⊥
IsUnlike asked found site.Shelf = IsNoneOf asked found

-- Why a content of a record is not loaded: the way to the shelf, which is one of these, refused the load, or its answer
-- is unlike it.
abbrev pub RefusesLoadOf : {P : Type 0} → (P → Type 0) → (P → P → List ℕ → ShelfFault → Type 0)
    → (P → P → List ℕ → Option Op → Type 0) → ContentRecordParts → PortFault → Type 0
RefusesLoadOf these refuses has_loaded asked fault = RefusesLoad these refuses port_fault_of asked.digest fault
    ⊎ ((found : Option Op) × HasAnswered these has_loaded asked.digest found × IsUnlike asked found fault)
