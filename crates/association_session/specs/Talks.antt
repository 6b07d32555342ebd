-- What an association does for what it hears, given what its port replies (PS3.7, 9; PS3.8, 9.2).
--
-- It hears PDUs, and behind each P-DATA-TF that is handed on the messages that it ends. What each message is answered
-- is a table, a line a service: `ServesKind` of `association_services`, over a table for each service. A C-GET hands on
-- the sub-operation whose response it awaits, so that its responses and its C-CANCEL are heard by the same recursion.
-- What it sends is loaded by its port, each in its turn.
use Rattle.std.specs.Prelude.{◌≡◌, ◌⊎◌, List, [], ◌∷◌, ◌++◌, map, Option, Some, None}
use Rattle.pdu.specs.declared.value.Pdu.{Pdu}
use Rattle.ul_state.specs.declared.event.Event.{Event}
use Rattle.ul_state.specs.declared.event.Event.TheVariants.{LocalAbort}
use Rattle.ul_state.specs.declared.table.State.{State}
use Rattle.ul_state.specs.declared.table.State.TheVariants.{Sta1, Sta2, Sta6, Sta13}
use Rattle.ul_state.specs.declared.titles.Title.{Title}
use Rattle.dimse.specs.declared.message.Message.{Message}
use Rattle.dimse.specs.Sending.{IsSending}
use Rattle.dimse.specs.declared.status.Status.{Status}
use Rattle.dimse.specs.declared.status.Status.TheVariants.{UnableToPerformSubOperations}
use Rattle.pdu.specs.declared.context.Context.{Context}
use Rattle.data_set.specs.declared.syntax.Syntax.{Syntax}
use Rattle.archive_model.specs.declared.listed.Listed.{Listed}
use Rattle.archive_model.specs.declared.prepared.Prepared.{Prepared}
use Rattle.data_set.specs.Set.{Set}
use Rattle.association_services.specs.declared.call.Call.TheVariants.{Store, Find, Get, Load}
use Rattle.association_session.specs.declared.deed.Deed.{Deed}
use Rattle.association_session.specs.declared.deed.Deed.TheVariants.{Send, Reach, Ask}
use Rattle.association_session.specs.declared.deed.Moment.TheVariants.{InStore, FindAnswered}
use Rattle.association_services.specs.declared.service.RowKind.{RowKind}
use Rattle.association_services.specs.declared.reply.Reply.{Reply}
use Rattle.association_services.specs.declared.reply.Reply.TheVariants.{Stored, Found, Gotten, Loaded}
use Rattle.association_services.specs.declared.retrieval.Meaning.{Meaning}
use Rattle.association_services.specs.declared.retrieval.Meaning.TheVariants.{Cancelled, Performed, Unawaited}
use Rattle.association_services.specs.declared.retrieval.Progress.{Progress}
use Rattle.association_services.specs.declared.way.Way.{Way}
use Rattle.association_services.specs.declared.service.Service.{Service}
use Rattle.association_services.specs.declared.service.Service.TheVariants.{Ignored, Broken, Responded, Asked}
use Rattle.association_services.specs.declared.service.Service.TheVariants.{Queried, Fetched}
use Rattle.association_services.specs.Context.{context_in}
use Rattle.association_services.specs.Find.{AreRows, rows_in, status_of_found}
use Rattle.association_services.specs.Response.{Awaited, Responds}
use Rattle.association_services.specs.Retrieval.{few_in, setting_out, way_for, loaded_for, failing, sending}
use Rattle.association_services.specs.Retrieval.{sub_operation}
use Rattle.association_services.specs.Retrieval.{meaning_of, performed, cancelling, RespondsIfLeft, RespondsEnd}
use Rattle.association_services.specs.Retrieval.{RespondsBy}
use Rattle.association_services.specs.SubOperation.{Retrieval, SubOperation}
use Rattle.association_session.specs.Row.{Link, Within, row, met}
use Rattle.association_services.specs.Service.{ServesOn}
use Rattle.association_services.specs.Store.{status_of_reply}
use Rattle.archive_model.specs.declared.view.View.{View}

-- a PDU or the local user's abort, or a whole message
pub data Heard : Type 0 where
  Met : Event → Heard
  Said : Message → Heard

-- ---- how deeds follow one another

-- what is done from some point on, for the replies from there on
abbrev pub Goes : Type 1
Goes = List Reply → List Deed → Type 0

-- These are done, and then it goes on.
abbrev pub Then : List Deed → (List Deed → Type 0) → List Deed → Type 0
Then now Rest deeds = (rest : List Deed) × (deeds ≡ now ++ rest) × Rest rest

-- The request is responded with this status, and then it goes on.
abbrev pub Tells : Awaited → Status → (List Deed → Type 0) → List Deed → Type 0
Tells awaited status Rest deeds = (response : List Pdu) × Responds awaited status response × Then (map Send response)
    Rest deeds

-- The rows are responded, each in its turn, and then the request with this status; the gate is reached, and then it
-- goes
-- on.
abbrev pub TellsRows : Awaited → RowKind → List Set → Status → (List Deed → Type 0) → List Deed → Type 0
TellsRows awaited kind rows status Rest deeds = (responses : List Pdu) × AreRows awaited kind rows responses
    × Then (map Send responses) (Tells awaited status (Then (Reach FindAnswered ∷ []) Rest)) deeds

-- what is done from some point on, by the sub-operation whose response is awaited
abbrev pub GoesBy : Type 1
GoesBy = Option SubOperation → Goes

-- These PDUs are sent, and then it goes on.
abbrev pub Sends : (List Pdu → Type 0) → (List Deed → Type 0) → List Deed → Type 0
Sends Are Rest deeds = (pdus : List Pdu) × Are pdus × Then (map Send pdus) Rest deeds

-- Of a sub-operation what was loaded is sent, or else it goes as it goes behind one that fails unsent.
abbrev pub SendsLoaded : Option Prepared → Progress → Way → (List Deed → Type 0) → (List Deed → Type 0) → List Deed
    → Type 0
SendsLoaded None g way Sent Unsent deeds = Unsent deeds
SendsLoaded (Some prepared) g way Sent Unsent deeds =
    Sends (IsSending (sub_operation g way prepared) g.awaited.limit) Sent deeds

-- what is done on the port's reply to a load; where none came yet, nothing is done
abbrev pub FollowsLoad : Progress → Listed → Way → Goes → Goes → Goes
FollowsLoad g p way sent unsent [] deeds = deeds ≡ []
FollowsLoad g p way sent unsent (Loaded reply ∷ rs) deeds =
    SendsLoaded (loaded_for p reply) g way (sent rs) (unsent rs) deeds
FollowsLoad g p way sent unsent (Stored reply ∷ rs) deeds = ⊥
FollowsLoad g p way sent unsent (Found reply ∷ rs) deeds = ⊥
FollowsLoad g p way sent unsent (Gotten reply ∷ rs) deeds = ⊥

-- A sub-operation fails unsent: it is responded that it did, where others are left, and then it goes on.
abbrev pub Fails : Progress → List Listed → Goes → Goes
Fails g left goes rs deeds = Sends (RespondsIfLeft g left) (goes rs) deeds

-- The port is asked to load what has a way to be sent; what has none fails unsent.
abbrev pub LoadsBy : Option Way → Progress → Listed → Goes → Goes → Goes
LoadsBy None g p sent unsent rs deeds = unsent rs deeds
LoadsBy (Some way) g p sent unsent rs deeds =
    Then (Ask (Load p.content) ∷ []) (FollowsLoad g p way sent unsent rs) deeds

-- The sub-operations that are left are begun, up to one whose response is then awaited, or to the last response.
abbrev pub Begins : List Context → Progress → List Listed → GoesBy → Goes
Begins contexts g [] gets rs deeds = Sends (RespondsEnd g) (gets None rs) deeds
Begins contexts g (p ∷ ps) gets rs deeds =
    LoadsBy (way_for contexts p) g p (gets (Some (sending g p ps)))
    (Fails (failing g p) ps (Begins contexts (failing g p) ps gets)) rs deeds

-- what is done on the port's reply to a store; where none came yet, nothing is done
abbrev pub FollowsStore : Awaited → Goes → Goes
FollowsStore awaited goes [] deeds = deeds ≡ []
FollowsStore awaited goes (Stored reply ∷ rs) deeds = Tells awaited (status_of_reply reply) (goes rs) deeds
FollowsStore awaited goes (Found reply ∷ rs) deeds = ⊥
FollowsStore awaited goes (Gotten reply ∷ rs) deeds = ⊥
FollowsStore awaited goes (Loaded reply ∷ rs) deeds = ⊥

-- what is done on its reply to a find
abbrev pub FollowsFind : Awaited → RowKind → Goes → Goes
FollowsFind awaited kind goes [] deeds = deeds ≡ []
FollowsFind awaited kind goes (Found reply ∷ rs) deeds = TellsRows awaited kind (rows_in reply) (status_of_found reply)
    (goes rs) deeds
FollowsFind awaited kind goes (Stored reply ∷ rs) deeds = ⊥
FollowsFind awaited kind goes (Gotten reply ∷ rs) deeds = ⊥
FollowsFind awaited kind goes (Loaded reply ∷ rs) deeds = ⊥

-- Its instances are sent, or else it is told that no sub-operation can be performed.
abbrev pub BeginsFew : List Context → Awaited → Syntax → Option (List Listed) → GoesBy → Goes → Goes
BeginsFew contexts awaited syntax None gets refused rs deeds =
    Tells awaited UnableToPerformSubOperations (refused rs) deeds
BeginsFew contexts awaited syntax (Some listed) gets refused rs deeds =
    Begins contexts (setting_out awaited syntax) listed gets rs deeds

-- what is done on its reply to a get
abbrev pub FollowsGet : List Context → Awaited → Syntax → GoesBy → Goes → Goes
FollowsGet contexts awaited syntax gets goes [] deeds = deeds ≡ []
FollowsGet contexts awaited syntax gets goes (Gotten reply ∷ rs) deeds =
    BeginsFew contexts awaited syntax (few_in reply) gets goes rs deeds
FollowsGet contexts awaited syntax gets goes (Stored reply ∷ rs) deeds = ⊥
FollowsGet contexts awaited syntax gets goes (Found reply ∷ rs) deeds = ⊥
FollowsGet contexts awaited syntax gets goes (Loaded reply ∷ rs) deeds = ⊥

-- ---- what is done for a message

-- what it is answered, on the context that it names of those that were agreed
abbrev pub Serves : Within → Message → Service → Type 0
Serves w m service = ServesOn w.settled (context_in w.link.contexts m.context) m.command m.body service

-- the request that is to be responded
abbrev pub awaiting : Link → Message → Awaited
awaiting link m = record { context = m.context; limit = link.limit; command = m.command }

-- By what it is answered: nothing; an abort of the local user, behind which it goes as `gone` says; a response; or the
-- port is asked, for a store behind the gate, and its reply is told.
abbrev pub Does : Service → List Context → Awaited → List Deed → GoesBy → Goes → Goes
Does Ignored contexts awaited abort gets gone rs deeds = gets None rs deeds
Does Broken contexts awaited abort gets gone rs deeds = Then abort (gone rs) deeds
Does (Responded status) contexts awaited abort gets gone rs deeds = Tells awaited status (gets None rs) deeds
Does (Asked content) contexts awaited abort gets gone rs deeds = Then (Reach InStore ∷ Ask (Store content) ∷ [])
    (FollowsStore awaited (gets None) rs) deeds
Does (Queried finding kind) contexts awaited abort gets gone rs deeds = Then (Ask (Find finding) ∷ [])
    (FollowsFind awaited kind (gets None) rs) deeds
Does (Fetched getting syntax) contexts awaited abort gets gone rs deeds = Then (Ask (Get getting) ∷ [])
    (FollowsGet contexts awaited syntax gets (gets None) rs) deeds

-- What it is answered is its line in the table of answers.
abbrev pub Answers : Within → Message → List Deed → GoesBy → Goes → Goes
Answers w m abort gets gone rs deeds = (service : Service) × Serves w m service
    × Does service w.link.contexts (awaiting w.link m) abort gets gone rs deeds

-- What is done within a C-GET: a C-CANCEL is kept in mind; behind a response it is responded, and the C-GET goes on or
-- ends; any other message is an abort of the local user.
abbrev pub GoesOnBy : Option Retrieval → List Context → GoesBy → Goes
GoesOnBy None contexts gets rs deeds = gets None rs deeds
GoesOnBy (Some r) contexts gets rs deeds = Begins contexts r.progress r.left gets rs deeds

abbrev pub Performs : Meaning → SubOperation → List Context → List Deed → GoesBy → Goes → Goes
Performs Cancelled sub contexts abort gets gone rs deeds = gets (Some (cancelling sub)) rs deeds
Performs Unawaited sub contexts abort gets gone rs deeds = Then abort (gone rs) deeds
Performs (Performed outcome) sub contexts abort gets gone rs deeds = (pdus : List Pdu) × (next : Option Retrieval)
    × RespondsBy sub.cancelled (performed sub outcome) sub.left pdus next
    × Then (map Send pdus) (GoesOnBy next contexts gets rs) deeds

-- A message is answered, or belongs to a C-GET whose sub-operation is awaited.
abbrev pub Attends : Option SubOperation → Within → Message → List Deed → GoesBy → Goes → Goes
Attends None w m abort gets gone = Answers w m abort gets gone
Attends (Some sub) w m abort gets gone =
    Performs (meaning_of sub.progress m.command) sub w.link.contexts abort gets gone

-- While the association is established a message is served; at any other time it is dropped.
abbrev pub InState : State → Goes → Goes → Goes
InState Sta6 served dropped = served
InState Sta1 served dropped = dropped
InState Sta2 served dropped = dropped
InState Sta13 served dropped = dropped

-- ---- what is done for all that is heard

abbrev pub Talks : List (Title View) → Within → Option SubOperation → List Heard → Goes
-- no more was heard
Talks titles w sub [] rs deeds = deeds ≡ []
-- the acceptor's table
Talks titles w sub (Met event ∷ us) rs deeds = Then (row titles w.state event)
    (Talks titles (met titles w event) sub us rs) deeds
-- the table of answers
Talks titles w sub (Said m ∷ us) rs deeds =
    InState w.state
    (Attends sub w m (row titles w.state LocalAbort) (λ next. Talks titles w next us)
    (Talks titles (met titles w LocalAbort) None us))
    (Talks titles w sub us) rs deeds

-- ---- where what is heard may lead

-- A message is heard only while the association is established, and leads on, or to goodbye.
abbrev pub Leads : List (Title View) → Within → List Heard → Within → Type 0
Leads titles w [] end = end ≡ w
Leads titles w (Met event ∷ us) end = Leads titles (met titles w event) us end
Leads titles w (Said m ∷ us) end = (w.state ≡ Sta6)
    × (Leads titles w us end ⊎ Leads titles (met titles w LocalAbort) us end)
