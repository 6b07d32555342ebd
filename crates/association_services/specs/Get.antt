-- What a C-GET is answered (PS3.7, 9.1.3; PS3.4, C.4.3; docs/DECISIONS.md, "What a message is answered").
use Rattle.std.specs.Prelude.{◌≡◌, ◌⊎◌, ℕ, ◌+◌, ◌-◌, nat_le, nat_lt, Bool, true, false, not, ◌&&◌, List, [], ◌∷◌}
use Rattle.std.specs.Prelude.{◌++◌, length}
use Rattle.std.specs.Prelude.{Option, Some, None, Result, Ok, Err, ◌==◌, if◌then◌else◌}
use Rattle.std.specs.List.{join_with_byte}
use Rattle.archive_model.specs.declared.view.View.{View}
use Rattle.archive_model.specs.declared.view.View.TheVariants.{Archive}
use Rattle.data_set.specs.declared.fault.SetFault.{SetFault}
use Rattle.data_set.specs.declared.syntax.Syntax.{Syntax}
use Rattle.data_set.specs.declared.syntax.Syntax.TheVariants.{Implicit, Explicit}
use Rattle.data_set.specs.Texts.{Spells, HasFault}
use Rattle.data_set.specs.Tree.{Tree, leaf}
use Rattle.data_set.specs.Values.{padded}
use Rattle.data_set.specs.Written.{text_of}
use Rattle.dictionary.specs.declared.elements.TheConstants.{FAILED_SOP_INSTANCE_UID_LIST}
use Rattle.dictionary.specs.declared.statuses.TheConstants.{FIRST_WARNING_STATUS, LAST_WARNING_STATUS, STATUS_SUCCESS}
use Rattle.dictionary.specs.declared.uids.TheConstants.{STUDY_ROOT_GET}
use Rattle.dimse.specs.declared.command.Command.{Command}
use Rattle.dimse.specs.declared.status.Status.{Status}
use Rattle.dimse.specs.declared.status.Status.TheVariants.{Success, SopClassNotSupported, UnrecognizedOperation}
use Rattle.dimse.specs.declared.status.Status.TheVariants.{DataSetMismatch, CannotUnderstand}
use Rattle.dimse.specs.declared.status.Status.TheVariants.{UnableToPerformSubOperations, SubOperationsWithFailures}
use Rattle.pdu.specs.declared.context.Context.{Context}
use Rattle.archive_model.specs.declared.fault.QueryFault.{QueryFault}
use Rattle.archive_model.specs.declared.accepts.Form.TheVariants.{Own, Converted}
use Rattle.archive_model.specs.declared.selection.Selection.{Selection}
use Rattle.archive_model.specs.Selection.{selection_of}
use Rattle.ul_state.specs.declared.acceptor.Settled.{Settled}
use Rattle.ul_state.specs.Titles.{is_text}
use Rattle.association_services.specs.declared.call.Getting.{Getting}
use Rattle.association_services.specs.declared.counts.Counts.{Counts}
use Rattle.association_services.specs.declared.counts.Outcome.{Outcome}
use Rattle.association_services.specs.declared.counts.Outcome.TheVariants.{Completed, Warned, Failed}
use Rattle.association_services.specs.declared.service.Service.{Service}
use Rattle.association_services.specs.declared.service.Service.TheVariants.{Responded, Fetched}
use Rattle.association_services.specs.declared.way.Way.{Way}
use Rattle.association_services.specs.Context.{is_other_class, syntax_of}

-- ---- before the port is asked

abbrev pub is_get : Context → Bool
is_get context = is_text context.abstract_syntax STUDY_ROOT_GET

-- the status of a C-GET that is refused before its identifier is read
unfoldable pub get_refusal : Context → Command → Option Status
get_refusal context command =
    if is_other_class context command.affected_class then Some SopClassNotSupported
    else if not (is_get context) then Some UnrecognizedOperation
    else None

-- a selection, in the view that was settled
abbrev pub getting_of : Option (Settled View) → Selection → Getting
getting_of None selection = record { view = Archive; selection = selection }
getting_of (Some settled) selection = record { view = settled.value; selection = selection }

-- The port is asked what an identifier selects, where it selects.
abbrev pub fetched_by : Option (Settled View) → Syntax → Result Selection QueryFault → Service
fetched_by settled syntax (Ok selection) = Fetched (getting_of settled selection) syntax
fetched_by settled syntax (Err fault) = Responded DataSetMismatch

-- an identifier whose elements are read, or that has a fault
abbrev pub ServesSelection : Option (Settled View) → Syntax → List ℕ → Service → Type 0
ServesSelection settled syntax text service =
    ((elements : List Tree) × Spells syntax text elements
    × (service ≡ fetched_by settled syntax (selection_of elements)))
    ⊎ ((fault : SetFault) × HasFault syntax text fault × (service ≡ Responded CannotUnderstand))

abbrev pub ServesSelected : Option (Settled View) → Context → Option (List ℕ) → Service → Type 0
ServesSelected settled context None service = service ≡ Responded CannotUnderstand
ServesSelected settled context (Some text) service = ServesSelection settled (syntax_of context) text service

abbrev pub ServesGet : Option (Settled View) → Context → Option (List ℕ) → Option Status → Service → Type 0
ServesGet settled context body (Some status) service = service ≡ Responded status
ServesGet settled context body None service = ServesSelected settled context body service

-- ---- on which context a content goes out

-- a context of this class in whose data sets are of this syntax, where the requestor has the SCP role
abbrev pub takes_class : List ℕ → Bool → Context → Bool
takes_class class explicit context =
    is_text context.abstract_syntax class && context.scp
    && (if explicit then context.explicit else not context.explicit)

abbrev pub lesser : ℕ → Option ℕ → ℕ
lesser id None = id
lesser id (Some other) = if nat_lt other id then other else id

-- with one context more
abbrev pub least_of : List ℕ → Bool → Context → Option ℕ → Option ℕ
least_of class explicit context found =
    if takes_class class explicit context then Some (lesser context.id found) else found

-- the least ID of such contexts
abbrev pub least_id : List ℕ → Bool → List Context → Option ℕ
least_id class explicit [] = None
least_id class explicit (context ∷ contexts) = least_of class explicit context (least_id class explicit contexts)

abbrev pub converted_on : Option ℕ → Option Way
converted_on None = None
converted_on (Some id) = Some (record { context = id; form = Converted })

abbrev pub own_or : Option ℕ → Option Way → Option Way
own_or None other = other
own_or (Some id) other = Some (record { context = id; form = Own })

-- the least context of its own syntax; else for explicit content the least implicit one, converted
abbrev pub way_of : List Context → List ℕ → Syntax → Option Way
way_of contexts class Implicit = own_or (least_id class false contexts) None
way_of contexts class Explicit = own_or (least_id class true contexts) (converted_on (least_id class false contexts))

-- ---- what a sub-operation comes to

-- a warning: Bxxx (PS3.7, C.1)
abbrev pub is_warning : ℕ → Bool
is_warning status = nat_le FIRST_WARNING_STATUS status && nat_le status LAST_WARNING_STATUS

abbrev pub outcome_by : ℕ → Outcome
outcome_by status = if status == STATUS_SUCCESS then Completed else if is_warning status then Warned else Failed

-- A response without a status fails its sub-operation.
abbrev pub outcome_of : Option ℕ → Outcome
outcome_of None = Failed
outcome_of (Some status) = outcome_by status

-- one sub-operation more, of this instance
abbrev pub counted : Outcome → List ℕ → Counts → Counts
counted Completed uid k = record { completed = k.completed + 1; warning = k.warning; failed = k.failed }
counted Warned uid k = record { completed = k.completed; warning = k.warning + 1; failed = k.failed }
counted Failed uid k = record { completed = k.completed; warning = k.warning; failed = k.failed ++ uid ∷ [] }

-- how many there were
abbrev pub all_counted : Counts → ℕ
all_counted k = k.completed + k.warning + length k.failed

-- ---- the last response

-- its status (PS3.4, C.4.3.1.4)
abbrev pub final_status : Counts → Status
final_status k =
    if length k.failed == 0 && k.warning == 0 then Success
    else if k.completed == 0 && k.warning == 0 then UnableToPerformSubOperations
    else SubOperationsWithFailures

-- the first of these UIDs, as many as have room: each takes its bytes and a backslash
abbrev pub fitting : ℕ → List (List ℕ) → List (List ℕ)
fitting room [] = []
fitting room (uid ∷ uids) = if nat_lt (length uid) room then uid ∷ fitting (room - (length uid + 1)) uids else []

-- how many bytes of a UID list with a backslash at its end have room: in explicit syntax 65,534 bytes and that
-- backslash; in implicit syntax as many as a defined length counts (PS3.5, 7.1.3)
abbrev pub room_in : Syntax → ℕ
room_in Explicit = 0xFFFF
room_in Implicit = 0xFFFFFFFE

abbrev pub vr_in : Syntax → Option (List ℕ)
vr_in Explicit = Some (0x55 ∷ 0x49 ∷ [])
vr_in Implicit = None

-- the UIDs, joined by backslashes and padded
abbrev pub uid_list : List (List ℕ) → List ℕ
uid_list uids = padded (0x55 ∷ 0x49 ∷ []) (join_with_byte 0x5c uids)

-- the data set with the failed ones, where there are any (PS3.7, 9.1.3.1.10)
abbrev pub failed_text : Syntax → List (List ℕ) → List ℕ
failed_text syntax uids =
    text_of (leaf FAILED_SOP_INSTANCE_UID_LIST (vr_in syntax) (uid_list (fitting (room_in syntax) uids)) ∷ [])

abbrev pub failed_set : Syntax → List (List ℕ) → Option (List ℕ)
failed_set syntax [] = None
failed_set syntax (uid ∷ uids) = Some (failed_text syntax (uid ∷ uids))
