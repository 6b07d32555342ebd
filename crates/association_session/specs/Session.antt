-- What a session has done, and what it is still to do.
use Rattle.std.specs.Prelude.{◌≡◌, ◌⊎◌, Bool, true, false, not, ◌||◌, List, [], ◌∷◌, ◌++◌, Option, Some, None, Result}
use Rattle.std.specs.Prelude.{Ok, Err, IsSome, length, ◌<◌, ⊤}
use Rattle.std.specs.List.{list_any}
use Rattle.pdu.specs.declared.context.Context.{Context}
use Rattle.pdu.specs.declared.pdv.Pdv.{Pdv}
use Rattle.pdu.specs.declared.value.Pdu.TheVariants as pdus
use Rattle.pdu.specs.Spelling.{IsPdu}
use Rattle.ul_state.specs.declared.event.Event.{Event}
use Rattle.ul_state.specs.declared.event.Event.TheVariants as events
use Rattle.ul_state.specs.declared.table.State.{State}
use Rattle.ul_state.specs.declared.table.State.TheVariants.{Sta1, Sta2, Sta6, Sta13}
use Rattle.ul_state.specs.declared.titles.Title.{Title}
use Rattle.ul_state.specs.Table.{next_of, opens, IsLeft}
use Rattle.ul_state.specs.Acceptor.{kind_for, HasLawfulPdu}
use Rattle.dimse.specs.declared.assembler.Stage.{Stage}
use Rattle.dimse.specs.declared.assembler.Stage.TheVariants.{Between}
use Rattle.dimse.specs.declared.fault.DimseFault.{DimseFault}
use Rattle.dimse.specs.declared.message.Message.{Message}
use Rattle.dimse.specs.Assembly.{Assembly}
use Rattle.dimse.specs.Messages.{Run, HadMemory}
use Rattle.association_session.specs.declared.pending_response.PendingResponse.{PendingResponse}
use Rattle.association_session.specs.declared.pending_response.PendingResponse.TheVariants as pendings
use Rattle.association_services.specs.declared.call.Call.{Call}
use Rattle.association_services.specs.declared.call.Call.TheVariants.{Store, Find, Get, Load}
use Rattle.association_session.specs.declared.deed.Deed.{Deed}
use Rattle.association_session.specs.declared.deed.Deed.TheVariants.{Send, Reach, Ask, Close}
use Rattle.association_session.specs.declared.event.SessionEvent.{SessionEvent}
use Rattle.association_session.specs.declared.event.SessionEvent.TheVariants as inputs
use Rattle.association_services.specs.declared.reply.Reply.{Reply}
use Rattle.association_session.specs.PendingResponse.{takes_reply, is_telling, IsAnswered, IsAnsweredOrLoads, left_of}
use Rattle.association_session.specs.PendingResponse.{Fits}
use Rattle.association_session.specs.Projections.{state_after}
use Rattle.association_services.specs.Retrieval.{failing, sending}
use Rattle.association_services.specs.SubOperation.{Loading, SubOperation}
use Rattle.association_session.specs.Row.{Within, met, handed_on, opening, NO_LINK}
use Rattle.association_session.specs.Talks.{Heard, Met, Said, Goes, GoesBy, FollowsStore, FollowsFind, FollowsGet}
use Rattle.association_session.specs.Talks.{FollowsLoad, TellsRows, Fails, Begins, Talks, Leads}
use Rattle.archive_model.specs.declared.view.View.{View}

-- ---- where a session is

-- what was agreed; the sub-operation whose response is awaited; what came since the last message; what is still to be
-- told of the request that was served last; and the values of the last P-DATA-TF that are not heard yet
pub record AssociationState : Type 0 where
  pub within : Within
  pub sub : Option SubOperation
  pub stage : Stage
  pub awaited : Option PendingResponse
  pub queue : List Pdv

-- whether an A-ABORT was sent or read, and whether an A-RELEASE-RP was sent
pub record SessionState : Type 0 where
  pub association : AssociationState
  pub aborted : Bool
  pub released : Bool

abbrev pub start : AssociationState
start = record { within = opening; sub = None; stage = Between; awaited = None; queue = [] }

-- no connection any more
abbrev pub closed : AssociationState
closed = record {
  within = record { state = Sta1; settled = None; link = NO_LINK };
  sub = None;
  stage = Between;
  awaited = None;
  queue = [];
}

-- ---- what is still to be done

-- what is done on the port's reply to a load, and behind it
abbrev pub FollowsLoading : List Context → Loading → GoesBy → Goes
FollowsLoading contexts l gets =
    FollowsLoad l.progress l.listed l.way (gets (Some (sending l.progress l.listed l.left)))
    (Fails (failing l.progress l.listed) l.left (Begins contexts (failing l.progress l.listed) l.left gets))

abbrev pub OwedFor : List Context → Option PendingResponse → GoesBy → Goes → Goes
OwedFor contexts None gets goes = goes
OwedFor contexts (Some (pendings.Store awaited)) gets goes = FollowsStore awaited goes
OwedFor contexts (Some (pendings.Find awaited kind)) gets goes = FollowsFind awaited kind goes
OwedFor contexts (Some (pendings.Rows telling)) gets goes =
    λ rs deeds. TellsRows telling.awaited telling.kind telling.rows telling.status (goes rs) deeds
OwedFor contexts (Some (pendings.Get awaited syntax)) gets goes = FollowsGet contexts awaited syntax gets goes
OwedFor contexts (Some (pendings.Sending r)) gets goes = Begins contexts r.progress r.left gets
OwedFor contexts (Some (pendings.Load l)) gets goes = FollowsLoading contexts l gets

-- the same, at a place, with a sub-operation whose response is awaited
abbrev pub OwedAt : List (Title View) → Within → Option SubOperation → Option PendingResponse → List Heard → Goes
OwedAt titles w sub pending us =
    OwedFor w.link.contexts pending (λ next. Talks titles w next us) (Talks titles w sub us)

-- what is still to be done for what is heard and replied from here on
abbrev pub Owes : List (Title View) → AssociationState → List Heard → Goes
Owes titles s us = OwedAt titles s.within s.sub s.awaited us

-- These deeds bring it from there to here: whatever is owed here, they and that are owed there.
abbrev pub Takes : List (Title View) → AssociationState → List Heard → List Reply → List Deed
    → AssociationState → Type 0
Takes titles old heard replied deeds new =
    (us : List Heard) (rs : List Reply) (rest : List Deed) → Owes titles new us rs rest → Owes titles old (heard ++ us)
    (replied ++ rs) (deeds ++ rest)

-- A reply to this call is awaited.
abbrev pub Awaits : Call → Option PendingResponse → Type 0
Awaits (Store content) (Some (pendings.Store awaited)) = ⊤
Awaits (Store content) (Some (pendings.Find awaited kind)) = ⊥
Awaits (Store content) (Some (pendings.Rows telling)) = ⊥
Awaits (Store content) (Some (pendings.Get awaited syntax)) = ⊥
Awaits (Store content) (Some (pendings.Sending r)) = ⊥
Awaits (Store content) (Some (pendings.Load l)) = ⊥
Awaits (Store content) None = ⊥
Awaits (Find finding) (Some (pendings.Find awaited kind)) = ⊤
Awaits (Find finding) (Some (pendings.Store awaited)) = ⊥
Awaits (Find finding) (Some (pendings.Rows telling)) = ⊥
Awaits (Find finding) (Some (pendings.Get awaited syntax)) = ⊥
Awaits (Find finding) (Some (pendings.Sending r)) = ⊥
Awaits (Find finding) (Some (pendings.Load l)) = ⊥
Awaits (Find finding) None = ⊥
Awaits (Get getting) (Some (pendings.Get awaited syntax)) = ⊤
Awaits (Get getting) (Some (pendings.Store awaited)) = ⊥
Awaits (Get getting) (Some (pendings.Find awaited kind)) = ⊥
Awaits (Get getting) (Some (pendings.Rows telling)) = ⊥
Awaits (Get getting) (Some (pendings.Sending r)) = ⊥
Awaits (Get getting) (Some (pendings.Load l)) = ⊥
Awaits (Get getting) None = ⊥
Awaits (Load asked) (Some (pendings.Load l)) = ⊤
Awaits (Load asked) (Some (pendings.Store awaited)) = ⊥
Awaits (Load asked) (Some (pendings.Find awaited kind)) = ⊥
Awaits (Load asked) (Some (pendings.Rows telling)) = ⊥
Awaits (Load asked) (Some (pendings.Get awaited syntax)) = ⊥
Awaits (Load asked) (Some (pendings.Sending r)) = ⊥
Awaits (Load asked) None = ⊥

-- A call is the last deed, and its reply is awaited. So is a close, and nothing is awaited.
abbrev pub Stops : List Deed → Option PendingResponse → Type 0
Stops [] awaited = IsAnswered awaited
Stops (Ask call ∷ ds) awaited = (ds ≡ []) × Awaits call awaited
Stops (Close ∷ ds) awaited = (ds ≡ []) × (awaited ≡ None)
Stops (Send pdu ∷ ds) awaited = Stops ds awaited
Stops (Reach moment ∷ ds) awaited = Stops ds awaited

-- ---- what values say

-- each message that they end, and the local user's abort for what is none
abbrev pub heard_in : List (Result (Option Message) DimseFault) → List Heard
heard_in [] = []
heard_in (Ok None ∷ rs) = heard_in rs
heard_in (Ok (Some m) ∷ rs) = Said m ∷ heard_in rs
heard_in (Err fault ∷ rs) = Met events.LocalAbort ∷ heard_in rs

abbrev pub assembly_of : AssociationState → Assembly
assembly_of s = record { contexts = s.within.link.contexts; stage = s.stage }

-- The first of the values were put together, and say this. The others are left, or are dropped where goodbye was said.
pub record HearsValues (old : AssociationState) (said : List Heard) (new : AssociationState) : Type 0
  where
    pub fed : List Pdv
    pub left : List Pdv
    pub answers : List (Result (Option Message) DimseFault)
    pub parts : old.queue ≡ fed ++ left
    pub kept : (new.queue ≡ left) ⊎ IsLeft new.within.state
    pub run : Run (assembly_of old) fed answers (assembly_of new)
    pub memory : HadMemory answers
    pub says : said ≡ heard_in answers

-- ---- turns

-- what came since the last message: nothing, where the association is established
abbrev pub stage_by : Bool → Stage → Stage
stage_by true stage = Between
stage_by false stage = stage

-- what an event brings, before its values are heard
abbrev pub entered : List (Title View) → AssociationState → Event → AssociationState
entered titles s event = record {
  within = met titles s.within event;
  sub = s.sub;
  stage = stage_by (opens s.within.state (next_of s.within.state (kind_for titles event))) s.stage;
  awaited = s.awaited;
  queue = handed_on titles s.within.state event;
}

abbrev pub started : List (Title View) → AssociationState → SessionEvent → AssociationState
started titles s (inputs.Heard event) = entered titles s event
started titles s (inputs.Replied reply) = record {
  within = s.within;
  sub = s.sub;
  stage = s.stage;
  awaited = None;
  queue = s.queue;
}
started titles s inputs.GoesOn = s

abbrev pub met_in : SessionEvent → List Heard
met_in (inputs.Heard event) = Met event ∷ []
met_in (inputs.Replied reply) = []
met_in inputs.GoesOn = []

abbrev pub replies_in : SessionEvent → List Reply
replies_in (inputs.Heard event) = []
replies_in (inputs.Replied reply) = reply ∷ []
replies_in inputs.GoesOn = []

-- whether values are to be heard on
abbrev pub is_left : State → List Pdv → Bool
is_left Sta6 (p ∷ ps) = true
is_left Sta6 [] = false
is_left Sta1 queue = false
is_left Sta2 queue = false
is_left Sta13 queue = false

-- A reply comes where it is awaited, and rows that are left are told; else the values that are left are heard; else an
-- event.
abbrev pub in_turn : Option PendingResponse → Bool → SessionEvent → Bool
in_turn (Some pending) left (inputs.Replied reply) = takes_reply pending reply
in_turn (Some pending) left (inputs.Heard event) = false
in_turn (Some pending) left inputs.GoesOn = is_telling pending
in_turn None left (inputs.Replied reply) = false
in_turn None left (inputs.Heard event) = not left
in_turn None left inputs.GoesOn = left

abbrev pub is_in_turn : AssociationState → SessionEvent → Bool
is_in_turn s event = in_turn s.awaited (is_left s.within.state s.queue) event

-- Behind a reply no call is made, and behind rows and sub-operations that are begun none but the load of the next one.
abbrev pub IsToldBy : SessionEvent → Option PendingResponse → Option PendingResponse → Type 0
IsToldBy (inputs.Replied reply) old new = IsAnswered new
IsToldBy (inputs.Heard event) old new = ⊤
IsToldBy inputs.GoesOn None new = ⊤
IsToldBy inputs.GoesOn (Some pending) new = IsAnsweredOrLoads new

-- Something is still to be told only while the association is established.
abbrev pub IsOpenFor : AssociationState → Type 0
IsOpenFor s = IsSome s.awaited → s.within.state ≡ Sta6

-- what it says, and the deeds for it, in order
pub record Turned (titles : List (Title View)) (old : AssociationState) (event : SessionEvent)
    (deeds : List Deed) (new : AssociationState) : Type 0 where
  pub said : List Heard
  pub values : HearsValues (started titles old event) said new
  pub leads : Leads titles (started titles old event).within said new.within
  pub takes : Takes titles old (met_in event ++ said) (replies_in event) deeds new
  pub stops : Stops deeds new.awaited
  pub state : new.within.state ≡ state_after old.within.state deeds
  pub told : IsToldBy event old.awaited new.awaited
  pub opened : IsOpenFor old → IsOpenFor new
  pub fits : Fits new.awaited

-- Rows that are told on become fewer, and sub-operations that are left, and else values that are heard on; a reply and
-- rows leave the values.
abbrev pub FewerFor : Option PendingResponse → AssociationState → AssociationState → Type 0
FewerFor None old new = length new.queue < length old.queue
FewerFor (Some pending) old new = (new.queue ≡ old.queue) × (left_of new.awaited < left_of old.awaited)

-- Behind the reply to a load fewer are left.
abbrev pub FewerBehind : Option PendingResponse → Option PendingResponse → Type 0
FewerBehind None new = ⊤
FewerBehind (Some (pendings.Store awaited)) new = ⊤
FewerBehind (Some (pendings.Find awaited kind)) new = ⊤
FewerBehind (Some (pendings.Rows telling)) new = ⊤
FewerBehind (Some (pendings.Get awaited syntax)) new = ⊤
FewerBehind (Some (pendings.Sending r)) new = ⊤
FewerBehind (Some (pendings.Load l)) new = left_of new < left_of (Some (pendings.Load l))

abbrev pub IsFewer : SessionEvent → AssociationState → AssociationState → Type 0
IsFewer (inputs.Heard event) old new = ⊤
IsFewer (inputs.Replied reply) old new = (new.queue ≡ old.queue) × FewerBehind old.awaited new.awaited
IsFewer inputs.GoesOn old new = FewerFor old.awaited old new

-- ---- how it ends

abbrev pub is_abort : Deed → Bool
is_abort (Send (pdus.Abort source reason)) = true
is_abort (Send (pdus.AssociateRq request)) = false
is_abort (Send (pdus.AssociateAc accept)) = false
is_abort (Send (pdus.AssociateRj reject)) = false
is_abort (Send (pdus.PData values)) = false
is_abort (Send pdus.ReleaseRq) = false
is_abort (Send pdus.ReleaseRp) = false
is_abort (Reach moment) = false
is_abort (Ask call) = false
is_abort Close = false

abbrev pub is_release : Deed → Bool
is_release (Send pdus.ReleaseRp) = true
is_release (Send (pdus.AssociateRq request)) = false
is_release (Send (pdus.AssociateAc accept)) = false
is_release (Send (pdus.AssociateRj reject)) = false
is_release (Send (pdus.PData values)) = false
is_release (Send pdus.ReleaseRq) = false
is_release (Send (pdus.Abort source reason)) = false
is_release (Reach moment) = false
is_release (Ask call) = false
is_release Close = false

abbrev pub is_abort_event : SessionEvent → Bool
is_abort_event (inputs.Heard (events.Got (pdus.Abort source reason))) = true
is_abort_event event = false

-- an A-ABORT is read; nothing is in Sta1
abbrev pub reads_abort : State → SessionEvent → Bool
reads_abort Sta1 event = false
reads_abort state event = is_abort_event event

abbrev pub aborted_by : Bool → State → SessionEvent → List Deed → Bool
aborted_by before state event deeds = before || (reads_abort state event || list_any is_abort deeds)

abbrev pub released_by : Bool → List Deed → Bool
released_by before deeds = before || list_any is_release deeds

-- It is over: nothing is awaited, and nothing is done any more.
abbrev pub over : SessionState → SessionState
over old = record { association = closed; aborted = old.aborted; released = old.released }

-- ---- what can be written

abbrev pub IsWritable : Deed → Type 0
IsWritable (Send pdu) = IsPdu pdu
IsWritable Close = ⊤
IsWritable (Reach moment) = ⊤
IsWritable (Ask call) = ⊤

-- A PDU that was read can be written.
abbrev pub IsSound : SessionEvent → Type 0
IsSound (inputs.Heard event) = HasLawfulPdu event
IsSound (inputs.Replied reply) = ⊤
IsSound inputs.GoesOn = ⊤
