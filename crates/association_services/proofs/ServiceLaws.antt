-- A message that has a service can be responded.
use Rattle.std.proofs.Common.{◌≡◌, ℕ, Bool, true, false, cond, Option, Some, None, List, refl, subst}
use Rattle.std.specs.Prelude.{nat_le, ◌==◌, ◌||◌}
use Rattle.dictionary.specs.declared.commands.TheConstants.{RESPONSE_BIT, C_CANCEL_RQ, C_FIND_RQ, C_GET_RQ}
use Rattle.dictionary.specs.declared.commands.TheConstants.{C_ECHO_RQ, C_STORE_RQ}
use Rattle.pdu.specs.declared.context.Context.{Context}
use Rattle.ul_state.specs.declared.acceptor.Settled.{Settled}
use Rattle.archive_model.specs.declared.view.View.{View}
use Rattle.dimse.specs.declared.command.Command.{Command}
use Rattle.dimse.specs.declared.message.Message.{Message}
use Rattle.dimse.specs.CommandField.{is_response_code}
use Rattle.dimse.specs.Sending.{IsWhole}
use Rattle.association_services.specs.declared.service.Kind.TheVariants as kinds
use Rattle.association_services.specs.declared.service.Service.{Service}
use Rattle.association_services.specs.declared.service.Service.TheVariants.{Ignored, Broken}
use Rattle.association_services.specs.Response.{FitsLimit, CanBeResponded}
use Rattle.association_services.specs.Service.{ServesKind, ServesOn}

-- it is responded, or asks the port
abbrev pub IsServed : Service → Type 0
IsServed Broken = ⊥
IsServed Ignored = ⊥
IsServed service = Unit {0}

by_kind : (a b c d e f : Bool) (settled : Option (Settled View)) (context : Context) (command : Command)
    (body : Option (List ℕ)) (service : Service)
    → ServesKind (cond a kinds.Response (cond b kinds.Cancel (cond c kinds.Find (cond d kinds.Get (cond e kinds.Echo
    (cond f kinds.Store kinds.Unknown)))))) settled context command body service
    → IsServed service → (a || b) ≡ false
by_kind true b c d e f settled context command body service serves is = absurd (subst IsServed serves is)
by_kind false true c d e f settled context command body service serves is = absurd (subst IsServed serves is)
by_kind false false c d e f settled context command body service serves is = refl

-- It is no response, and no C-CANCEL.
served_request : (settled : Option (Settled View)) (context : Option Context) (command : Command)
    (body : Option (List ℕ)) (service : Service) → ServesOn settled context command body service → IsServed service
    → is_response_code command.field ≡ false
served_request settled None command body service serves is = absurd (subst IsServed serves is)
served_request settled (Some context) command body service serves is =
    by_kind (nat_le RESPONSE_BIT command.field) (command.field == C_CANCEL_RQ) (command.field == C_FIND_RQ)
    (command.field == C_GET_RQ) (command.field == C_ECHO_RQ) (command.field == C_STORE_RQ) settled context command
    body service serves is

pub can_respond : (settled : Option (Settled View)) (context : Option Context) (m : Message) (limit : ℕ)
    (service : Service) → IsWhole m → FitsLimit limit → ServesOn settled context m.command m.body service
    → IsServed service → CanBeResponded (record { context = m.context; limit = limit; command = m.command })
can_respond settled context m limit service whole fits serves is = record {
  asked = served_request settled context m.command m.body service serves is;
  lawful = whole.lawful;
  room = whole.room;
  limit = fits;
}
