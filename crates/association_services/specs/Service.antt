-- Which service answers a message (PS3.7, 9.1 and 9.3; docs/DECISIONS.md, "What a message is answered").
use Rattle.std.specs.Prelude.{◌≡◌, ℕ, List, ◌==◌, nat_le, Option, Some, None, if◌then◌else◌}
use Rattle.archive_model.specs.declared.view.View.{View}
use Rattle.dictionary.specs.declared.commands.TheConstants.{RESPONSE_BIT, C_CANCEL_RQ, C_FIND_RQ, C_GET_RQ}
use Rattle.dictionary.specs.declared.commands.TheConstants.{C_ECHO_RQ, C_STORE_RQ}
use Rattle.pdu.specs.declared.context.Context.{Context}
use Rattle.ul_state.specs.declared.acceptor.Settled.{Settled}
use Rattle.dimse.specs.declared.command.Command.{Command}
use Rattle.dimse.specs.declared.status.Status.{Status}
use Rattle.dimse.specs.declared.status.Status.TheVariants.{SopClassNotSupported, UnrecognizedOperation}
use Rattle.association_services.specs.declared.service.Kind.{Kind}
use Rattle.association_services.specs.declared.service.Kind.TheVariants as kinds
use Rattle.association_services.specs.declared.service.Service.{Service}
use Rattle.association_services.specs.declared.service.Service.TheVariants.{Ignored, Broken, Responded}
use Rattle.association_services.specs.Context.{is_other_class}
use Rattle.association_services.specs.Echo.{echo_status}
use Rattle.association_services.specs.Find.{find_refusal, ServesFind}
use Rattle.association_services.specs.Get.{get_refusal, ServesGet}
use Rattle.association_services.specs.Store.{store_refusal, ServesStore}

-- the kind of a command field (PS3.7, E.1)
abbrev pub kind_of : ℕ → Kind
kind_of field =
    if nat_le RESPONSE_BIT field then kinds.Response
    else if field == C_CANCEL_RQ then kinds.Cancel
    else if field == C_FIND_RQ then kinds.Find
    else if field == C_GET_RQ then kinds.Get
    else if field == C_ECHO_RQ then kinds.Echo
    else if field == C_STORE_RQ then kinds.Store
    else kinds.Unknown

-- a request of no service that is known
unfoldable pub unknown_status : Context → Command → Status
unknown_status context command =
    if is_other_class context command.affected_class then SopClassNotSupported else UnrecognizedOperation

abbrev pub ServesKind
    : Kind → Option (Settled View) → Context → Command → Option (List ℕ) → Service → Type 0
ServesKind kinds.Response settled context command body service = service ≡ Broken
ServesKind kinds.Cancel settled context command body service = service ≡ Ignored
ServesKind kinds.Find settled context command body service = ServesFind settled context
    body (find_refusal context command) service
ServesKind kinds.Get settled context command body service = ServesGet settled context
    body (get_refusal context command) service
ServesKind kinds.Echo settled context command body service = service ≡ Responded (echo_status context command)
ServesKind kinds.Store settled context command body service = ServesStore context command
    body (store_refusal context command) service
ServesKind kinds.Unknown settled context command body service = service ≡ Responded (unknown_status context command)

-- Each message is on an accepted context; on another one it is no message.
abbrev pub ServesOn : Option (Settled View) → Option Context → Command → Option (List ℕ) → Service → Type 0
ServesOn settled None command body service = service ≡ Broken
ServesOn settled (Some context) command body service = ServesKind (kind_of command.field) settled context command body
    service
