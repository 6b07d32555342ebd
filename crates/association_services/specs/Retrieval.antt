-- The sub-operations of a C-GET (PS3.7, 9.1.3; PS3.4, C.4.3; docs/DECISIONS.md, "What a message is answered").
use Rattle.std.specs.Prelude.{◌≡◌, ℕ, ◌+◌, Bool, true, false, ◌&&◌, List, [], ◌∷◌, length, Option, Some}
use Rattle.std.specs.Prelude.{None}
use Rattle.std.specs.Prelude.{Result, Ok, Err, ◌==◌, if◌then◌else◌, nat_le, is_some}
use Rattle.data_set.specs.declared.syntax.Syntax.{Syntax}
use Rattle.data_set.specs.declared.syntax.Syntax.TheVariants.{Implicit, Explicit}
use Rattle.dictionary.specs.declared.commands.TheConstants.{C_CANCEL_RQ, C_STORE_RQ, C_STORE_RSP}
use Rattle.dimse.specs.declared.command.Command.{Command}
use Rattle.dimse.specs.declared.command.TheConstants.{DATA_SET_FOLLOWS}
use Rattle.dimse.specs.declared.message.Message.{Message}
use Rattle.dimse.specs.declared.status.Status.{Status}
use Rattle.dimse.specs.declared.status.Status.TheVariants.{Cancel, Pending}
use Rattle.dimse.specs.Response.{response_of}
use Rattle.dimse.specs.Sending.{IsSending}
use Rattle.dimse.specs.Status.{status_code}
use Rattle.pdu.specs.declared.context.Context.{Context}
use Rattle.pdu.specs.declared.value.Pdu.{Pdu}
use Rattle.operation.specs.Parts.{ContentParts}
use Rattle.ul_state.specs.Titles.{is_text}
use Rattle.archive_model.specs.declared.listed.Listed.{Listed}
use Rattle.archive_model.specs.declared.prepared.Prepared.{Prepared}
use Rattle.archive_model.specs.Listed.{with_content}
use Rattle.archive_model.specs.Prepared.{text_in}
use Rattle.association_services.specs.declared.counts.Counts.{Counts}
use Rattle.association_services.specs.declared.counts.Outcome.{Outcome}
use Rattle.association_services.specs.declared.counts.Outcome.TheVariants.{Failed}
use Rattle.association_services.specs.declared.reply.PortFault.{PortFault}
use Rattle.association_services.specs.declared.retrieval.Begun.{Begun}
use Rattle.association_services.specs.declared.retrieval.Begun.TheVariants.{Ended, Loads}
use Rattle.association_services.specs.declared.retrieval.Begun.TheVariants as begins
use Rattle.association_services.specs.declared.loading.Brought.{Brought}
use Rattle.association_services.specs.declared.loading.Brought.TheVariants.{Sent, Unsent}
use Rattle.association_services.specs.declared.retrieval.Meaning.{Meaning}
use Rattle.association_services.specs.declared.retrieval.Meaning.TheVariants.{Cancelled, Performed, Unawaited}
use Rattle.association_services.specs.declared.retrieval.Progress.{Progress}
use Rattle.association_services.specs.declared.retrieval.TheConstants.{MOST_SUB_OPERATIONS}
use Rattle.association_services.specs.declared.way.Way.{Way}
use Rattle.association_services.specs.Response.{Awaited}
use Rattle.association_services.specs.SubOperation.{Retrieval, Loading, SubOperation}
use Rattle.association_services.specs.Get.{counted, failed_set, final_status, outcome_of, way_of}

-- ---- where a C-GET is

-- what the port replied, where it is no fault and no more than can be counted
abbrev pub few_of : Bool → List Listed → Option (List Listed)
few_of true listed = Some listed
few_of false listed = None

abbrev pub few_in : Result (List Listed) PortFault → Option (List Listed)
few_in (Ok listed) = few_of (nat_le (length listed) MOST_SUB_OPERATIONS) listed
few_in (Err fault) = None

-- none was begun
abbrev pub setting_out : Awaited → Syntax → Progress
setting_out awaited syntax = record {
  awaited = awaited;
  syntax = syntax;
  sent = 0;
  counts = record { completed = 0; warning = 0; failed = [] };
}

abbrev pub with_counts : Progress → Counts → Progress
with_counts g counts = record { awaited = g.awaited; syntax = g.syntax; sent = g.sent; counts = counts }

abbrev pub with_sent : Progress → Progress
with_sent g = record { awaited = g.awaited; syntax = g.syntax; sent = g.sent + 1; counts = g.counts }

-- ---- its responses

-- how many sub-operations are left, where it is told, and how many came to what
abbrev pub numbered : Counts → Option ℕ → Bool → Command → Command
numbered counts remaining listed command = record {
  affected_class = command.affected_class;
  field = command.field;
  message_id = command.message_id;
  responded_to = command.responded_to;
  priority = command.priority;
  data_set_type = if listed then DATA_SET_FOLLOWS else command.data_set_type;
  status = command.status;
  affected_instance = command.affected_instance;
  remaining = remaining;
  completed = Some counts.completed;
  failed = Some (length counts.failed);
  warning = Some counts.warning;
}

-- a response with these counts, and perhaps a data set
abbrev pub counting : Progress → Status → Option ℕ → Option (List ℕ) → Message
counting g status remaining body = record {
  context = g.awaited.context;
  command = numbered g.counts remaining (is_some body) (response_of g.awaited.command (status_code status));
  body = body;
}

-- its PDUs
abbrev pub CountsIn : Progress → Status → Option ℕ → Option (List ℕ) → List Pdu → Type 0
CountsIn g status remaining body pdus = IsSending (counting g status remaining body) g.awaited.limit pdus

-- behind a sub-operation a pending response, where some are left
abbrev pub RespondsIfLeft : Progress → List Listed → List Pdu → Type 0
RespondsIfLeft g [] pdus = pdus ≡ []
RespondsIfLeft g (p ∷ ps) pdus = CountsIn g Pending (Some (length (p ∷ ps))) None pdus

-- the last response, behind all of them
abbrev pub RespondsEnd : Progress → List Pdu → Type 0
RespondsEnd g pdus = CountsIn g (final_status g.counts) None (failed_set g.syntax g.counts.failed) pdus

-- the last response, where a C-CANCEL was heard
abbrev pub RespondsCancel : Progress → List Listed → List Pdu → Type 0
RespondsCancel g left pdus = CountsIn g Cancel (Some (length left)) (failed_set g.syntax g.counts.failed) pdus

-- ---- its sub-operations

-- a C-STORE with this message ID
abbrev pub store_request : ℕ → List ℕ → List ℕ → Command
store_request id class instance = record {
  affected_class = Some class;
  field = C_STORE_RQ;
  message_id = Some id;
  responded_to = None;
  priority = Some 0;
  data_set_type = DATA_SET_FOLLOWS;
  status = None;
  affected_instance = Some instance;
  remaining = None;
  completed = None;
  failed = None;
  warning = None;
}

-- the next sub-operation, which sends this on this context
abbrev pub sub_operation : Progress → Way → Prepared → Message
sub_operation g way p = record {
  context = way.context;
  command = store_request (g.sent + 1) p.content.class p.content.instance;
  body = Some (text_in way.form p);
}

-- where it is behind the sub-operation of this instance, which failed
abbrev pub failed : Progress → List ℕ → Progress
failed g instance = with_counts g (counted Failed instance g.counts)

-- one that fails unsent
abbrev pub failing : Progress → Listed → Progress
failing g p = failed g p.content.instance

-- one that is sent, and whose response is awaited
abbrev pub sending : Progress → Listed → List Listed → SubOperation
sending g p ps = record { progress = with_sent g; left = ps; instance = p.content.instance; cancelled = false }

abbrev pub way_for : List Context → Listed → Option Way
way_for contexts p = way_of contexts p.content.class p.content.syntax

-- ---- what is loaded for one

abbrev pub is_same_syntax : Syntax → Syntax → Bool
is_same_syntax Implicit Implicit = true
is_same_syntax Explicit Explicit = true
is_same_syntax Implicit Explicit = false
is_same_syntax Explicit Implicit = false

-- whether a content is of the class, the instance and the transfer syntax that were listed
abbrev pub is_as_listed : Listed → ContentParts → Bool
is_as_listed p c = is_text c.class p.content.class && is_text c.instance p.content.instance
    && is_same_syntax c.syntax p.content.syntax

-- what is sent, where the port's reply to the load is a content that is as it was listed
abbrev pub loaded_for : Listed → Result ContentParts PortFault → Option Prepared
loaded_for p (Ok content) = if is_as_listed p content then Some (with_content p content) else None
loaded_for p (Err fault) = None

-- ---- what is heard within it

-- this ID is named
abbrev pub is_named : Option ℕ → Option ℕ → Bool
is_named None named = false
is_named (Some id) None = false
is_named (Some id) (Some named) = named == id

-- its C-CANCEL, the response that is awaited, or any other message
abbrev pub meaning_of : Progress → Command → Meaning
meaning_of g command =
    if command.field == C_CANCEL_RQ && is_named g.awaited.command.message_id command.responded_to then Cancelled
    else if command.field == C_STORE_RSP && is_named (Some g.sent) command.responded_to
    then Performed (outcome_of command.status)
    else Unawaited

-- how far it is behind the response
abbrev pub performed : SubOperation → Outcome → Progress
performed sub outcome = with_counts sub.progress (counted outcome sub.instance sub.progress.counts)

abbrev pub cancelling : SubOperation → SubOperation
cancelling sub = record { progress = sub.progress; left = sub.left; instance = sub.instance; cancelled = true }

-- what is responded behind a sub-operation, and what goes on then
abbrev pub RespondsBy : Bool → Progress → List Listed → List Pdu → Option Retrieval → Type 0
RespondsBy true g left pdus next = RespondsCancel g left pdus × (next ≡ None)
RespondsBy false g left pdus next = RespondsIfLeft g left pdus × (next ≡ Some (record { progress = g; left = left }))

-- ---- one step

-- what one step begins: the last response; a sub-operation, whose content is to be loaded; or one that fails unsent,
-- and what is left behind it
abbrev pub Begins : List Context → Retrieval → Begun → Type 0
Begins contexts r (Ended pdus) = (r.left ≡ []) × RespondsEnd r.progress pdus
Begins contexts r (Loads asked loading) = (p : Listed) × (ps : List Listed) × (way : Way) × (r.left ≡ p ∷ ps)
    × (way_for contexts p ≡ Some way) × (asked ≡ p.content)
    × (loading ≡ record { progress = r.progress; listed = p; left = ps; way = way })
Begins contexts r (begins.Unsent pdus next) = (p : Listed) × (ps : List Listed) × (r.left ≡ p ∷ ps)
    × (way_for contexts p ≡ None) × RespondsIfLeft (failing r.progress p) ps pdus
    × (next ≡ record { progress = failing r.progress p; left = ps })

abbrev pub pdus_begun : Begun → List Pdu
pdus_begun (Ended pdus) = pdus
pdus_begun (Loads asked loading) = []
pdus_begun (begins.Unsent pdus next) = pdus

-- what the port's reply to a load brings: the sub-operation; or it fails unsent
abbrev pub Brings : Loading → Result ContentParts PortFault → Brought → Type 0
Brings l reply (Sent pdus sub) = (p : Prepared) × (loaded_for l.listed reply ≡ Some p)
    × IsSending (sub_operation l.progress l.way p) l.progress.awaited.limit pdus
    × (sub ≡ sending l.progress l.listed l.left)
Brings l reply (Unsent pdus next) = (loaded_for l.listed reply ≡ None)
    × RespondsIfLeft (failing l.progress l.listed) l.left pdus
    × (next ≡ record { progress = failing l.progress l.listed; left = l.left })

abbrev pub pdus_brought : Brought → List Pdu
pdus_brought (Sent pdus sub) = pdus
pdus_brought (Unsent pdus next) = pdus
