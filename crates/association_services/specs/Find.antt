-- What a C-FIND is answered (PS3.7, 9.1.2; PS3.4, C.4.1; docs/DECISIONS.md, "What a message is answered").
use Rattle.std.specs.Prelude.{◌≡◌, ◌⊎◌, ℕ, Bool, true, false, not, List, [], ◌∷◌, ◌++◌, Option, Some, None, Result, Ok}
use Rattle.std.specs.Prelude.{Err, if◌then◌else◌}
use Rattle.archive_model.specs.declared.view.View.{View}
use Rattle.archive_model.specs.declared.view.View.TheVariants.{Archive}
use Rattle.data_set.specs.declared.fault.SetFault.{SetFault}
use Rattle.data_set.specs.declared.syntax.Syntax.{Syntax}
use Rattle.data_set.specs.declared.syntax.Syntax.TheVariants.{Implicit, Explicit}
use Rattle.data_set.specs.Converted.{converted}
use Rattle.data_set.specs.Set.{Set}
use Rattle.data_set.specs.Texts.{Spells, HasFault}
use Rattle.data_set.specs.Tree.{Tree}
use Rattle.data_set.specs.Written.{text_of}
use Rattle.dictionary.specs.declared.uids.TheConstants.{STUDY_ROOT_FIND}
use Rattle.pdu.specs.declared.context.Context.{Context}
use Rattle.pdu.specs.declared.value.Pdu.{Pdu}
use Rattle.ul_state.specs.declared.acceptor.Settled.{Settled}
use Rattle.ul_state.specs.Titles.{is_text}
use Rattle.dimse.specs.declared.command.Command.{Command}
use Rattle.dimse.specs.declared.status.Status.{Status}
use Rattle.dimse.specs.declared.status.Status.TheVariants.{Success, SopClassNotSupported, UnrecognizedOperation}
use Rattle.dimse.specs.declared.status.Status.TheVariants.{OutOfResources, DataSetMismatch, CannotUnderstand, Pending}
use Rattle.dimse.specs.declared.status.Status.TheVariants.{PendingWithoutOptionalKeys}
use Rattle.archive_model.specs.declared.fault.QueryFault.{QueryFault}
use Rattle.archive_model.specs.declared.query.Query.{Query}
use Rattle.archive_model.specs.Query.{query_of}
use Rattle.association_services.specs.declared.call.Finding.{Finding}
use Rattle.association_services.specs.declared.service.RowKind.{RowKind}
use Rattle.association_services.specs.declared.reply.PortFault.{PortFault}
use Rattle.association_services.specs.declared.service.Service.{Service}
use Rattle.association_services.specs.declared.service.Service.TheVariants.{Responded, Queried}
use Rattle.association_services.specs.Context.{is_other_class, syntax_of}
use Rattle.association_services.specs.Response.{Awaited, RespondsWith}

-- ---- before the port is asked

abbrev pub is_find : Context → Bool
is_find context = is_text context.abstract_syntax STUDY_ROOT_FIND

-- the status of a C-FIND that is refused before its identifier is read
unfoldable pub find_refusal : Context → Command → Option Status
find_refusal context command =
    if is_other_class context command.affected_class then Some SopClassNotSupported
    else if not (is_find context) then Some UnrecognizedOperation
    else None

-- the status of a row: FF01H where a key is not supported (PS3.4, C.4.1.1.4)
abbrev pub row_status : Bool → Status
row_status true = PendingWithoutOptionalKeys
row_status false = Pending

-- a query, under the called title and in the view that were settled
abbrev pub finding_of : Option (Settled View) → Query → Finding
finding_of None query = record { called = []; view = Archive; query = query }
finding_of (Some settled) query = record { called = settled.title; view = settled.value; query = query }

-- The port is asked what an identifier asks, where it is a query.
abbrev pub queried_by : Option (Settled View) → Syntax → Result Query QueryFault → Service
queried_by settled syntax (Ok query) =
    Queried (finding_of settled query) (record { syntax = syntax; status = row_status query.partial })
queried_by settled syntax (Err fault) = Responded DataSetMismatch

-- an identifier whose elements are read, or that has a fault
abbrev pub ServesIdentifier : Option (Settled View) → Syntax → List ℕ → Service → Type 0
ServesIdentifier settled syntax text service =
    ((elements : List Tree) × Spells syntax text elements × (service ≡ queried_by settled syntax (query_of elements)))
    ⊎ ((fault : SetFault) × HasFault syntax text fault × (service ≡ Responded CannotUnderstand))

abbrev pub ServesQuery : Option (Settled View) → Context → Option (List ℕ) → Service → Type 0
ServesQuery settled context None service = service ≡ Responded CannotUnderstand
ServesQuery settled context (Some text) service = ServesIdentifier settled (syntax_of context) text service

abbrev pub ServesFind : Option (Settled View) → Context → Option (List ℕ) → Option Status → Service → Type 0
ServesFind settled context body (Some status) service = service ≡ Responded status
ServesFind settled context body None service = ServesQuery settled context body service

-- ---- what the port's reply is told by

-- a response for each row that was found
abbrev pub rows_in : Result (List Set) PortFault → List Set
rows_in (Ok rows) = rows
rows_in (Err fault) = []

-- the status behind them
abbrev pub status_of_found : Result (List Set) PortFault → Status
status_of_found (Ok rows) = Success
status_of_found (Err fault) = OutOfResources

-- the data set of a row, in the context's transfer syntax
abbrev pub row_text : Syntax → Set → List ℕ
row_text Implicit row = text_of (converted Implicit row.elements)
row_text Explicit row = text_of row.elements

abbrev pub RespondsRow : Awaited → RowKind → Set → List Pdu → Type 0
RespondsRow awaited kind row pdus = RespondsWith awaited kind.status (row_text kind.syntax row) pdus

-- the responses with these rows, in order
abbrev pub AreRows : Awaited → RowKind → List Set → List Pdu → Type 0
AreRows awaited kind [] pdus = pdus ≡ []
AreRows awaited kind (row ∷ rows) pdus = (first rest : List Pdu) × RespondsRow awaited kind row first
    × AreRows awaited kind rows rest × (pdus ≡ first ++ rest)
