-- What a C-STORE is answered (PS3.7, 9.1.1; PS3.4, B.2.3; docs/DECISIONS.md, "What a message is answered").
use Rattle.std.specs.Prelude.{◌≡◌, ℕ, List, [], not, Option, Some, None, Result, Ok, Err, if◌then◌else◌}
use Rattle.pdu.specs.declared.context.Context.{Context}
use Rattle.ul_state.specs.Answer.{is_storage}
use Rattle.dimse.specs.declared.command.Command.{Command}
use Rattle.dimse.specs.declared.status.Status.{Status}
use Rattle.dimse.specs.declared.status.Status.TheVariants.{Success, SopClassNotSupported, UnrecognizedOperation}
use Rattle.dimse.specs.declared.status.Status.TheVariants.{OutOfResources, DataSetMismatch, CannotUnderstand}
use Rattle.operation.specs.declared.draft.Draft.{Draft}
use Rattle.operation.specs.declared.fault.OpFault.{OpFault}
use Rattle.operation.specs.declared.fault.OpFault.TheVariants.{Mismatch}
use Rattle.operation.specs.Contents.{drafted, IsOutcome}
use Rattle.operation.specs.declared.taken.Taken.{Taken}
use Rattle.association_services.specs.declared.reply.PortFault.{PortFault}
use Rattle.association_services.specs.declared.reply.PortFault.TheVariants.{Memory, Busy, Collision, Shelf}
use Rattle.association_services.specs.declared.service.Service.{Service}
use Rattle.association_services.specs.declared.service.Service.TheVariants.{Ignored, Broken, Responded, Asked}
use Rattle.association_services.specs.declared.service.Service.TheVariants.{Queried, Fetched}
use Rattle.association_services.specs.Context.{is_other_class, syntax_of}

-- the status of a C-STORE that is refused before its data set is read
unfoldable pub store_refusal : Context → Command → Option Status
store_refusal context command =
    if is_other_class context command.affected_class then Some SopClassNotSupported
    else if not (is_storage context.abstract_syntax) then Some UnrecognizedOperation
    else None

-- the status of a data set that is no content
abbrev pub status_of_fault : OpFault → Status
status_of_fault Mismatch = DataSetMismatch
status_of_fault fault = CannotUnderstand

-- the status that the port's reply is told by
abbrev pub status_of_reply : Result Taken PortFault → Status
status_of_reply (Ok taken) = Success
status_of_reply (Err Memory) = OutOfResources
status_of_reply (Err Busy) = OutOfResources
status_of_reply (Err Collision) = CannotUnderstand
status_of_reply (Err Shelf) = OutOfResources

-- ---- what it brings

-- the content that a C-STORE brings, or its refusal
abbrev pub ServesDraft : Draft → Service → Type 0
ServesDraft draft (Asked content) = IsOutcome draft (Ok content)
ServesDraft draft (Responded status) = (fault : OpFault) × IsOutcome draft (Err fault)
    × (status ≡ status_of_fault fault)
ServesDraft draft Ignored = ⊥
ServesDraft draft Broken = ⊥
ServesDraft draft (Queried finding kind) = ⊥
ServesDraft draft (Fetched getting syntax) = ⊥

abbrev pub uid_or_empty : Option (List ℕ) → List ℕ
uid_or_empty None = []
uid_or_empty (Some uid) = uid

-- what a C-STORE with this data set says, on its context
abbrev pub draft_for : Context → Command → List ℕ → Draft
draft_for context command body =
    drafted (uid_or_empty command.affected_class) (uid_or_empty command.affected_instance) (syntax_of context) body

abbrev pub ServesBody : Context → Command → Option (List ℕ) → Service → Type 0
ServesBody context command None service = service ≡ Responded CannotUnderstand
ServesBody context command (Some body) service = ServesDraft (draft_for context command body) service

abbrev pub ServesStore : Context → Command → Option (List ℕ) → Option Status → Service → Type 0
ServesStore context command body (Some status) service = service ≡ Responded status
ServesStore context command body None service = ServesBody context command body service
