-- Sites as ports.
use Rattle.std.specs.Prelude.{◌≡◌, ◌≢◌, ℕ, List, Some, None, Result, Ok, Err, refl}
use Rattle.std.specs.FinMap as finmap
use Rattle.std.specs.Coded.{Coded, code_by, coded×, coded_ℕ, coded_list}
use Rattle.octets.specs.Members.{Has}
use Rattle.operation.specs.declared.op.Op.{Op}
use Rattle.operation.specs.declared.op.Op.TheVariants.{Content as a_content}
use Rattle.operation.specs.Parts.{ContentParts}
use Rattle.operation.specs.RecordParts.{ContentRecordParts, content_record}
use Rattle.operation.specs.OpCode.{op_code}
use Rattle.operation.specs.Spelling.{digest_of}
use Rattle.operation.specs.declared.taken.Taken.{Taken}
use Rattle.operation.specs.declared.taken.Taken.TheVariants.{New, Known}
use Rattle.records.specs.StandIn.{op_in}
use Rattle.site_state.specs.declared.fault.SiteFault.{SiteFault}
use Rattle.site_state.specs.declared.fault.SiteFault.TheVariants as site_faults
use Rattle.site_state.specs.Site.{Map, ops_of, held_at, with_op}
use Rattle.site_state.specs.Whole.{recorded}
use Rattle.site_hub.specs.declared.fault.HubFault.{HubFault}
use Rattle.site_hub.specs.declared.fault.HubFault.TheVariants as hub_faults
use Rattle.site_hub.specs.Hub.{News}
use Rattle.association_services.specs.declared.reply.PortFault.{PortFault}
use Rattle.association_services.specs.declared.reply.PortFault.TheVariants.{Memory, Busy, Collision}

-- what a site holds, and the digests of the contents that were stored in it
pub record PortParts : Type 0 where
  pub site : Map
  pub own : List (List ℕ)

-- what stands for the operations that it holds, ascending by digest
abbrev pub recorded_in : PortParts → List Op
recorded_in p = ops_of (recorded p.site)

-- How a site takes an operation as its record tells it from others: new where nothing of its digest is held, and known
-- where what is held stands for it.
abbrev pub TakesRecord : Map → Op → Taken → Map → Type 0
TakesRecord old op New new = (held_at old (digest_of op) ≡ None) × (new ≡ with_op old op)
TakesRecord old op Known new = (held_at (recorded old) (digest_of op) ≡ Some (op_in op)) × (new ≡ old)

-- what a fault of a site is to a port
abbrev pub fault_of_site : SiteFault → PortFault
fault_of_site site_faults.Collision = Collision
fault_of_site site_faults.Memory = Memory

-- What a fault of a hub is to a port: what is not published yet could not be, for want of memory. A take and a look
-- have no other fault.
abbrev pub fault_of_hub : HubFault → PortFault
fault_of_hub hub_faults.Busy = Busy
fault_of_hub hub_faults.Collision = Collision
fault_of_hub hub_faults.Memory = Memory
fault_of_hub hub_faults.StampsSpent = Memory
fault_of_hub hub_faults.Torn = Memory
fault_of_hub hub_faults.Pending = Memory
fault_of_hub hub_faults.BadCorrection = Memory

-- what the answer to a take is to a port
abbrev pub reply_to : Result News HubFault → Result Taken PortFault
reply_to (Ok told) = Ok told.taken
reply_to (Err fault) = Err (fault_of_hub fault)

abbrev pub port_code : Coded PortParts
port_code = code_by (Map × List (List ℕ)) (coded× (finmap.code (coded_list coded_ℕ) op_code)
    (coded_list (coded_list coded_ℕ))) (λ p. (p.site, p.own)) (λ p. record { site = p.0; own = p.1 }) (λ _. refl)

-- No content of this record is held.
abbrev pub IsUnheld : List Op → ContentRecordParts → Type 0
IsUnheld held asked = (content : ContentParts) → Has held (a_content content) → content_record content ≢ asked
