-- Requests, and the responses that they have (PS3.7, 9.3).
use Rattle.std.specs.Prelude.{◌≡◌, ◌⊎◌, ℕ, Bool, true, false, List, [], ◌∷◌, ◌++◌, length, Option, Some, None, IsSome}
use Rattle.pdu.specs.declared.value.Pdu.{Pdu}
use Rattle.pdu.specs.declared.value.Pdu.TheVariants.{AssociateRq, AssociateAc, AssociateRj, PData, ReleaseRq, ReleaseRp}
use Rattle.pdu.specs.declared.value.Pdu.TheVariants.{Abort}
use Rattle.ul_state.specs.declared.event.Event.TheVariants.{LocalAbort}
use Rattle.ul_state.specs.declared.table.State.{State}
use Rattle.ul_state.specs.declared.table.State.TheVariants.{Sta1, Sta2, Sta6, Sta13}
use Rattle.ul_state.specs.declared.titles.Title.{Title}
use Rattle.data_set.specs.declared.syntax.Syntax.{Syntax}
use Rattle.dimse.specs.declared.message.Message.{Message}
use Rattle.dimse.specs.Response.{response_code, told_instance}
use Rattle.dimse.specs.Sending.{IsSending}
use Rattle.dimse.specs.Status.{status_code}
use Rattle.pdu.specs.declared.context.Context.{Context}
use Rattle.archive_model.specs.declared.listed.Listed.{Listed}
use Rattle.archive_model.specs.declared.prepared.Prepared.{Prepared}
use Rattle.archive_model.specs.declared.sending.Sending.{Sending}
use Rattle.dimse.specs.declared.status.Status.{Status}
use Rattle.association_services.specs.declared.call.Call.{Call}
use Rattle.association_session.specs.declared.deed.Deed.{Deed}
use Rattle.association_services.specs.declared.reply.Reply.{Reply}
use Rattle.association_services.specs.declared.reply.Reply.TheVariants.{Stored, Found, Gotten, Loaded}
use Rattle.association_services.specs.declared.retrieval.Meaning.{Meaning}
use Rattle.association_services.specs.declared.retrieval.Meaning.TheVariants.{Cancelled, Performed, Unawaited}
use Rattle.association_services.specs.declared.retrieval.Progress.{Progress}
use Rattle.association_session.specs.declared.deed.Deed.TheVariants.{Send, Reach, Ask, Close}
use Rattle.association_services.specs.declared.way.Way.{Way}
use Rattle.association_services.specs.declared.service.Service.{Service}
use Rattle.association_services.specs.declared.service.Service.TheVariants.{Ignored, Broken, Responded, Asked}
use Rattle.association_services.specs.declared.service.Service.TheVariants.{Queried, Fetched}
use Rattle.association_services.specs.Accepted.{carried_of, Carries}
use Rattle.association_services.specs.Response.{Awaited, is_pending}
use Rattle.association_services.specs.SubOperation.{SubOperation}
use Rattle.association_services.specs.Retrieval.{few_in, setting_out, way_for, loaded_for, failing, sending, meaning_of}
use Rattle.association_services.specs.Retrieval.{performed, cancelling}
use Rattle.association_session.specs.Row.{Within, met}
use Rattle.association_session.specs.Selected.{selected_by, CountsFor}
use Rattle.association_session.specs.Talks.{Heard, Met, Said, Serves, awaiting}
use Rattle.archive_model.specs.declared.view.View.{View}

-- the P-DATA-TFs that are sent
abbrev pub data_in : List Deed → List Pdu
data_in [] = []
data_in (Send (PData values) ∷ ds) = PData values ∷ data_in ds
data_in (Send (AssociateRq request) ∷ ds) = data_in ds
data_in (Send (AssociateAc accept) ∷ ds) = data_in ds
data_in (Send (AssociateRj reject) ∷ ds) = data_in ds
data_in (Send ReleaseRq ∷ ds) = data_in ds
data_in (Send ReleaseRp ∷ ds) = data_in ds
data_in (Send (Abort source reason) ∷ ds) = data_in ds
data_in (Reach moment ∷ ds) = data_in ds
data_in (Ask call ∷ ds) = data_in ds
data_in (Close ∷ ds) = data_in ds

-- a request that awaits its responses, and how many instances it selected, where it is a C-GET whose sub-operations are
-- performed; and what these are still to carry, in order, on which contexts
pub record Requested : Type 0 where
  pub awaited : Awaited
  pub selected : Option ℕ
  pub contexts : List Context
  pub carried : List Sending

-- one without sub-operations
abbrev pub plain : Awaited → Requested
plain a = record { awaited = a; selected = None; contexts = []; carried = [] }

-- one that selected so many, of which these are left, for the port's replies to their loads
abbrev pub selecting : List Context → Awaited → ℕ → List Listed → List Reply → Requested
selecting contexts a selected left rs = record {
  awaited = a;
  selected = Some selected;
  contexts = contexts;
  carried = carried_of contexts left rs;
}

-- a response to a request, on its context, of its operation, class and instance: a pending one, or the last; its counts
-- add up to what was selected
pub record RespondsTo (a : Awaited) (selected : Option ℕ) (pending : Bool) (m : Message) : Type 0 where
  pub context : m.context ≡ a.context
  pub field : m.command.field ≡ response_code a.command.field
  pub affected_class : m.command.affected_class ≡ a.command.affected_class
  pub affected_instance : m.command.affected_instance ≡ told_instance a.command
  pub id : m.command.responded_to ≡ a.command.message_id
  pub status : Status
  pub is : m.command.status ≡ Some (status_code status)
  pub kind : is_pending status ≡ pending
  pub counts : CountsFor selected m

-- a pending response to a request; or a C-STORE, which carries the next of what its sub-operations carry
abbrev pub IsOnTheWay : Requested → List Sending → Message → List Sending → Type 0
IsOnTheWay r carried m left =
    (RespondsTo r.awaited r.selected true m × (left ≡ carried))
    ⊎ ((sending : Sending) × (carried ≡ sending ∷ left) × Carries r.contexts sending m)

-- These messages are sent on the way to the last response, and then others behind them.
abbrev pub SendsOnTheWay : Requested → List Sending → List Message → (List Pdu → Type 0) → List Pdu → Type 0
SendsOnTheWay r carried [] Behind pdus = Behind pdus
SendsOnTheWay r carried (m ∷ ms) Behind pdus = (left : List Sending) × IsOnTheWay r carried m left
    × (first rest : List Pdu) × IsSending m r.awaited.limit first × SendsOnTheWay r left ms Behind rest
    × (pdus ≡ first ++ rest)

-- The last response is sent, and then others behind it.
abbrev pub SendsLast : Requested → (List Pdu → Type 0) → List Pdu → Type 0
SendsLast r Behind pdus = (m : Message) × RespondsTo r.awaited r.selected false m × (first rest : List Pdu)
    × IsSending m r.awaited.limit first × Behind rest × (pdus ≡ first ++ rest)

-- Each of these requests has one last response, in order, behind what is on the way to it, and nothing else is sent; to
-- the last of them it may be open, by how many instances that selected.
abbrev pub AreResponded : (Option ℕ → Type 0) → List Requested → List Pdu → Type 0
AreResponded Open [] pdus = pdus ≡ []
AreResponded Open (r ∷ requests) pdus = (ms : List Message) × SendsOnTheWay r r.carried ms
    (λ rest. SendsLast r (AreResponded Open requests) rest ⊎ ((requests ≡ []) × (rest ≡ []) × Open r.selected)) pdus

-- ---- the requests

-- what is to be responded, by the sub-operation whose response is awaited
abbrev pub RequestsBy : Type 1
RequestsBy = Option SubOperation → List Reply → List Requested → Type 0

-- this request, and then those behind it
abbrev pub Precedes : Requested → (List Requested → Type 0) → List Requested → Type 0
Precedes r Rest requests = (rest : List Requested) × (requests ≡ r ∷ rest) × Rest rest

-- those behind the reply of the port; where it did not reply yet, no more
abbrev pub Replied : (List Reply → List Requested → Type 0) → List Reply → List Requested → Type 0
Replied Goes [] requests = requests ≡ []
Replied Goes (r ∷ rs) requests = Goes rs requests

-- those behind the port's reply to a load, by what it brought; where it did not reply yet, no more
abbrev pub RequestsLoaded : Option Prepared → (List Requested → Type 0) → (List Requested → Type 0) → List Requested
    → Type 0
RequestsLoaded None Sent Unsent requests = Unsent requests
RequestsLoaded (Some prepared) Sent Unsent requests = Sent requests

abbrev pub RepliedLoad : Listed → (List Reply → List Requested → Type 0) → (List Reply → List Requested → Type 0)
    → List Reply → List Requested → Type 0
RepliedLoad p Sent Unsent [] requests = requests ≡ []
RepliedLoad p Sent Unsent (Loaded reply ∷ rs) requests =
    RequestsLoaded (loaded_for p reply) (Sent rs) (Unsent rs) requests
RepliedLoad p Sent Unsent (Stored reply ∷ rs) requests = ⊥
RepliedLoad p Sent Unsent (Found reply ∷ rs) requests = ⊥
RepliedLoad p Sent Unsent (Gotten reply ∷ rs) requests = ⊥

abbrev pub RequestsByWay : Option Way → Listed → (List Reply → List Requested → Type 0)
    → (List Reply → List Requested → Type 0) → List Reply → List Requested → Type 0
RequestsByWay None p Sent Unsent rs requests = Unsent rs requests
RequestsByWay (Some way) p Sent Unsent rs requests = RepliedLoad p Sent Unsent rs requests

-- those behind a C-GET whose sub-operations that are left are begun
abbrev pub RequestsBegun : List Context → Progress → List Listed → RequestsBy → List Reply → List Requested → Type 0
RequestsBegun contexts g [] Goes rs requests = Goes None rs requests
RequestsBegun contexts g (p ∷ ps) Goes rs requests =
    RequestsByWay (way_for contexts p) p (Goes (Some (sending g p ps))) (RequestsBegun contexts (failing g p) ps Goes)
    rs requests

-- a C-GET selected all that the port replied, and where these are no few nothing; what it is to carry is made of what
-- was loaded of them
abbrev pub FewRequests : Option (List Listed) → List Context → Awaited → Syntax → RequestsBy → List Reply
    → List Requested → Type 0
FewRequests None contexts a syntax Goes rs requests = Precedes (plain a) (Goes None rs) requests
FewRequests (Some listed) contexts a syntax Goes rs requests =
    Precedes (selecting contexts a (length listed) listed rs)
    (RequestsBegun contexts (setting_out a syntax) listed Goes rs) requests

abbrev pub RepliedGet : List Context → Awaited → Syntax → RequestsBy → List Reply → List Requested → Type 0
RepliedGet contexts a syntax Goes [] requests = requests ≡ plain a ∷ []
RepliedGet contexts a syntax Goes (Gotten reply ∷ rs) requests =
    FewRequests (few_in reply) contexts a syntax Goes rs requests
RepliedGet contexts a syntax Goes (Stored reply ∷ rs) requests = ⊥
RepliedGet contexts a syntax Goes (Found reply ∷ rs) requests = ⊥
RepliedGet contexts a syntax Goes (Loaded reply ∷ rs) requests = ⊥

-- what is to be responded of a message that is served so, and then of what stands behind it
abbrev pub RequestFor : Service → List Context → Awaited → RequestsBy → (List Reply → List Requested → Type 0)
    → List Reply → List Requested → Type 0
RequestFor Ignored contexts a Goes Gone rs requests = Goes None rs requests
RequestFor Broken contexts a Goes Gone rs requests = Gone rs requests
RequestFor (Responded status) contexts a Goes Gone rs requests = Precedes (plain a) (Goes None rs) requests
RequestFor (Asked content) contexts a Goes Gone rs requests = Precedes (plain a) (Replied (Goes None) rs) requests
RequestFor (Queried finding kind) contexts a Goes Gone rs requests = Precedes (plain a) (Replied (Goes None) rs)
    requests
RequestFor (Fetched getting syntax) contexts a Goes Gone rs requests = RepliedGet contexts a syntax Goes rs requests

-- those behind a C-GET that is cancelled or not
abbrev pub RequestsBehind : Bool → List Context → Progress → List Listed → RequestsBy → List Reply → List Requested
    → Type 0
RequestsBehind true contexts g left Goes rs requests = Goes None rs requests
RequestsBehind false contexts g left Goes rs requests = RequestsBegun contexts g left Goes rs requests

-- Within a C-GET there is no other request, and any other message ends the association.
abbrev pub RequestWithin : Meaning → SubOperation → List Context → RequestsBy → (List Reply → List Requested → Type 0)
    → List Reply → List Requested → Type 0
RequestWithin Cancelled sub contexts Goes Gone rs requests = Goes (Some (cancelling sub)) rs requests
RequestWithin Unawaited sub contexts Goes Gone rs requests = requests ≡ []
RequestWithin (Performed outcome) sub contexts Goes Gone rs requests =
    RequestsBehind sub.cancelled contexts (performed sub outcome) sub.left Goes rs requests

abbrev pub RequestOf : Option SubOperation → Within → Message → RequestsBy → (List Reply → List Requested → Type 0)
    → List Reply → List Requested → Type 0
RequestOf None w m Goes Gone rs requests = (service : Service) × Serves w m service
    × RequestFor service w.link.contexts (awaiting w.link m) Goes Gone rs requests
RequestOf (Some sub) w m Goes Gone rs requests = RequestWithin (meaning_of sub.progress m.command) sub w.link.contexts
    Goes Gone rs requests

-- A message is served while the association is established, and dropped at any other time.
abbrev pub RequestIn : State → (List Reply → List Requested → Type 0) → (List Reply → List Requested → Type 0)
    → List Reply → List Requested → Type 0
RequestIn Sta6 Served Dropped = Served
RequestIn Sta1 Served Dropped = Dropped
RequestIn Sta2 Served Dropped = Dropped
RequestIn Sta13 Served Dropped = Dropped

-- These are the requests that are to be responded among what is heard, in order, for these replies of the port.
abbrev pub Requests : List (Title View) → Within → Option SubOperation → List Heard → List Reply → List Requested
    → Type 0
Requests titles w sub [] rs requests = requests ≡ []
Requests titles w sub (Met event ∷ us) rs requests = Requests titles (met titles w event) sub us rs requests
Requests titles w sub (Said m ∷ us) rs requests =
    RequestIn w.state
    (RequestOf sub w m (λ next. Requests titles w next us) (Requests titles (met titles w LocalAbort) None us))
    (Requests titles w sub us) rs requests

-- the C-GET whose sub-operation is awaited, and then these
abbrev pub open_in : List Context → Option SubOperation → List Reply → List Requested → List Requested
open_in contexts None rs requests = requests
open_in contexts (Some sub) rs requests =
    selecting contexts sub.progress.awaited (selected_by sub) sub.left rs ∷ requests

-- A call is the last deed.
abbrev pub EndsInCall : List Deed → Type 0
EndsInCall ds = (front : List Deed) × (call : Call) × (ds ≡ front ++ Ask call ∷ [])

-- The last response may be open where its call has no reply yet; and to a C-GET that selected instances, whose
-- sub-operations go on, or whose association ended before.
abbrev pub IsOpen : List Deed → Option ℕ → Type 0
IsOpen ds selected = EndsInCall ds ⊎ IsSome selected

-- Each request that was heard has one last response, unless it is open.
abbrev pub HasResponses : List (Title View) → Within → Option SubOperation → List Heard → List Reply → List Deed
    → Type 0
HasResponses titles w sub us rs ds = (requests : List Requested) × Requests titles w sub us rs requests
    × AreResponded (IsOpen ds) (open_in w.link.contexts sub rs requests) (data_in ds)
