-- What is done on one event of a session, and on one PDU.
use Rattle.std.specs.Prelude.{◌≡◌, ◌≢◌, ◌⊎◌, ℕ, Bool, true, false, ◌||◌, List, [], ◌∷◌, ◌++◌, Option, Some, None}
use Rattle.std.specs.Prelude.{IsTrue, option_to_list, ⊤}
use Rattle.std.specs.List.{list_any}
use Rattle.operation.specs.declared.op.Op.{Op}
use Rattle.pdu.specs.declared.pdv.Pdv.{Pdv}
use Rattle.ul_state.specs.declared.event.Event.{Event}
use Rattle.ul_state.specs.declared.titles.Title.{Title}
use Rattle.association_session.specs.declared.deed.Deed.{Deed}
use Rattle.association_session.specs.declared.deed.Deed.TheVariants.{Send, Reach, Ask, Close}
use Rattle.association_session.specs.declared.event.SessionEvent.{SessionEvent}
use Rattle.association_session.specs.declared.event.SessionEvent.TheVariants as inputs
use Rattle.association_services.specs.declared.reply.Reply.{Reply}
use Rattle.association_services.specs.declared.reply.Reply.TheVariants.{Stored, Found, Gotten, Loaded}
use Rattle.association_session.specs.Projections.{IsFront, state_after}
use Rattle.association_session.specs.declared.pending_response.PendingResponse.{PendingResponse}
use Rattle.association_session.specs.declared.pending_response.PendingResponse.TheVariants as pendings
use Rattle.association_session.specs.PendingResponse.{takes_reply, IsAnswered, Fits}
use Rattle.ul_state.specs.Table.{IsLeft}
use Rattle.ul_state.specs.declared.table.State.TheVariants.{Sta1}
use Rattle.association_session.specs.Session.{IsOpenFor}
use Rattle.association_session.specs.Session.{AssociationState, SessionState, Turned, Takes, IsFewer, IsSound}
use Rattle.association_session.specs.Session.{is_in_turn, is_left, is_abort, is_release, is_abort_event, aborted_by}
use Rattle.association_session.specs.Session.{released_by, met_in, replies_in}
use Rattle.association_session.specs.Talks.{Heard}
use Rattle.association_run.specs.Hearing.{Place, Hears, HearsSome}
use Rattle.association_run.specs.Parts.{Sides, Performs, Begins}
use Rattle.archive_model.specs.declared.view.View.{View}

-- A call or a close is the last deed.
abbrev pub Halts : List Deed → Type 0
Halts [] = ⊤
Halts (Ask call ∷ ds) = ds ≡ []
Halts (Close ∷ ds) = ds ≡ []
Halts (Send pdu ∷ ds) = Halts ds
Halts (Reach moment ∷ ds) = Halts ds

-- A front of these deeds was done, and then this front of the next one's bytes was written; no call was made.
abbrev pub BreaksOff : {P : Type 0} → (P → List Op) → (P → List (List ℕ)) → Sides P → Sides P → List Deed → Type 0
BreaksOff ops own old new deeds = (done : List Deed) × (part : List ℕ) × Begins done part deeds
    × Performs ops own old new done part []

-- ---- one event of a session

-- whether a content is to be told that was loaded for a sub-operation
abbrev pub is_loaded : Option Reply → Bool
is_loaded None = false
is_loaded (Some (Loaded reply)) = true
is_loaded (Some (Stored reply)) = false
is_loaded (Some (Found reply)) = false
is_loaded (Some (Gotten reply)) = false

-- what tells rows on, and sub-operations: the content that was loaded for one, and else that the session goes on
abbrev pub row_input : Option Reply → SessionEvent
row_input None = inputs.GoesOn
row_input (Some reply) = inputs.Replied reply

-- how many replies are to be told that no row or sub-operation awaits
abbrev pub due : Option Reply → ℕ
due None = 0
due (Some (Loaded reply)) = 0
due (Some (Stored reply)) = 1
due (Some (Found reply)) = 1
due (Some (Gotten reply)) = 1

-- No row is left to be told, and no sub-operation to be begun or to be loaded.
abbrev pub IsQuiet : Option PendingResponse → Type 0
IsQuiet None = ⊤
IsQuiet (Some (pendings.Store awaited)) = ⊤
IsQuiet (Some (pendings.Find awaited kind)) = ⊤
IsQuiet (Some (pendings.Rows telling)) = ⊥
IsQuiet (Some (pendings.Get awaited syntax)) = ⊤
IsQuiet (Some (pendings.Sending retrieval)) = ⊥
IsQuiet (Some (pendings.Load loading)) = ⊥

-- The reply that is to be told next is that of the call that is awaited.
abbrev pub Pends : Option PendingResponse → Option Reply → Type 0
Pends awaited None = IsAnswered awaited
Pends None (Some reply) = ⊥
Pends (Some due) (Some reply) = takes_reply due reply ≡ true

-- what comes next: the reply that is to be told, and else rows that are left, or what is left of a P-DATA-TF
abbrev pub IsNext : AssociationState → Option Reply → Option SessionEvent → Type 0
IsNext s pending None = (pending ≡ None) × (is_in_turn s inputs.GoesOn ≡ false)
IsNext s pending (Some event) = IsTrue (is_in_turn s event) × IsSound event × (met_in event ≡ [])
    × (replies_in event ≡ option_to_list pending)

-- The session was told, and its deeds were done.
pub record DidTurn {P : Type 0} (ops : P → List Op) (own : P → List (List ℕ)) (titles : List (Title View))
    (old new : Sides P) (from : SessionState) (event : SessionEvent) (pending : Option Reply) (to : SessionState)
    : Type 0 where
  pub deeds : List Deed
  pub turned : Turned titles from.association event deeds to.association
  pub fewer : IsFewer event from.association to.association
  pub aborted : to.aborted ≡ aborted_by from.aborted from.association.within.state event deeds
  pub released : to.released ≡ released_by from.released deeds
  pub did : Performs ops own old new deeds [] (option_to_list pending)

-- The session was told, and a front of its deeds was done.
pub record BrokeDeeds {P : Type 0} (ops : P → List Op) (own : P → List (List ℕ)) (titles : List (Title View))
    (old new : Sides P) (from : SessionState) (event : SessionEvent) : Type 0 where
  pub deeds : List Deed
  pub to : AssociationState
  pub turned : Turned titles from.association event deeds to
  pub broke : BreaksOff ops own old new deeds

-- It was not told, for want of memory, or a front of the deeds was done.
abbrev pub BrokeTurn : {P : Type 0} → (P → List Op) → (P → List (List ℕ)) → List (Title View) → Sides P → Sides P
    → SessionState → SessionEvent → Type 0
BrokeTurn ops own titles old new from event = (new ≡ old) ⊎ BrokeDeeds ops own titles old new from event

-- ---- one PDU

abbrev pub place_of : AssociationState → Place
place_of s = record { within = s.within; stage = s.stage }

-- A PDU can be heard: what it brings can be answered, nothing is awaited or left, and there is a connection.
pub record CanHear (s : SessionState) (event : Event) : Type 0 where
  pub sound : IsSound (inputs.Heard event)
  pub idle : s.association.awaited ≡ None
  pub finished : is_left s.association.within.state s.association.queue ≡ false
  pub connected : s.association.within.state ≢ Sta1

-- A PDU was heard whole, and all the deeds for it were done.
pub record HeardWhole {P : Type 0} (ops : P → List Op) (own : P → List (List ℕ)) (titles : List (Title View))
    (old new : Sides P) (from : SessionState) (event : Event) (to : SessionState) : Type 0 where
  pub heard : List Heard
  pub replies : List Reply
  pub done : List Deed
  pub hears : Hears titles (place_of from.association) event heard (place_of to.association)
  pub takes : Takes titles from.association heard replies done to.association
  pub state : to.association.within.state ≡ state_after from.association.within.state done
  pub did : Performs ops own old new done [] replies
  pub idle : to.association.awaited ≡ None
  pub finished : is_left to.association.within.state to.association.queue ≡ false
  pub aborted : to.aborted ≡ (from.aborted || (is_abort_event (inputs.Heard event) || list_any is_abort done))
  pub released : to.released ≡ (from.released || list_any is_release done)

-- Nothing was heard of a PDU, or itself and what the first of its values say.
abbrev pub HearsPart : List (Title View) → Place → Event → List Heard → Type 0
HearsPart titles place event heard = (heard ≡ []) ⊎ ((left : List Pdv) × (new : Place)
    × HearsSome titles place event heard left new)

-- A front of it was heard, and of the deeds for it a front was done; the last reply may not be told yet.
pub record HeardFront {P : Type 0} (ops : P → List Op) (own : P → List (List ℕ)) (titles : List (Title View))
    (old new : Sides P) (from : AssociationState) (event : Event) : Type 0 where
  pub heard : List Heard
  pub told : List Reply
  pub replies : List Reply
  pub first : IsFront told replies
  pub all : List Deed
  pub to : AssociationState
  pub fits : Fits to.awaited
  pub hears : HearsPart titles (place_of from) event heard
  pub takes : Takes titles from heard told all to
  pub done : List Deed
  pub part : List ℕ
  pub front : Begins done part all
  pub did : Performs ops own old new done part replies

-- ---- up to the end of a PDU

-- So much of an event was heard, and was done.
pub record Hearing {P : Type 0} (ops : P → List Op) (own : P → List (List ℕ)) (titles : List (Title View))
    (old now : Sides P) (from : SessionState) (event : Event) (pending : Option Reply) (s : SessionState) : Type 0
  where
    pub heard : List Heard
    pub told : List Reply
    pub done : List Deed
    pub left : List Pdv
    pub some : HearsSome titles (place_of from.association) event heard left (place_of s.association)
    pub kept : (s.association.queue ≡ left) ⊎ IsLeft s.association.within.state
    pub takes : Takes titles from.association heard told done s.association
    pub state : s.association.within.state ≡ state_after from.association.within.state done
    pub did : Performs ops own old now done [] (told ++ option_to_list pending)
    pub pends : Pends s.association.awaited pending
    pub asked : IsOpenFor s.association
    pub fits : Fits s.association.awaited
    pub aborted : s.aborted ≡ (from.aborted || (is_abort_event (inputs.Heard event) || list_any is_abort done))
    pub released : s.released ≡ (from.released || list_any is_release done)

-- Whatever was heard and done so far, the session goes on with it, from the reply that was to be told to the next.
abbrev pub GoesOnWith : {P : Type 0} → (P → List Op) → (P → List (List ℕ)) → List (Title View) → Sides P → Sides P
    → SessionState → Option Reply → SessionState → Option Reply → Type 0
GoesOnWith {P = P} ops own titles now then s pending t behind =
    (old : Sides P) (from : SessionState) (event : Event)
    → Hearing ops own titles old now from event pending s → Hearing ops own titles old then from event behind t

-- Whatever was heard and done so far, it is broken off.
abbrev pub BreaksWith : {P : Type 0} → (P → List Op) → (P → List (List ℕ)) → List (Title View) → Sides P → Sides P
    → SessionState → Option Reply → Type 0
BreaksWith {P = P} ops own titles now then s pending =
    (old : Sides P) (from : SessionState) (event : Event)
    → Hearing ops own titles old now from event pending s → HeardFront ops own titles old then from.association event
