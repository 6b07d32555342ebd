-- What an event is to the machine, and what is sent on it.
use Rattle.std.specs.Prelude.{List, [], ◌∷◌, Option, Some, None, Result, Ok, Err, ⊤}
use Rattle.pdu.specs.declared.value.Pdu.{Pdu}
use Rattle.pdu.specs.declared.value.Pdu.TheVariants as pdus
use Rattle.pdu.specs.declared.fault.PduFault.{PduFault}
use Rattle.pdu.specs.declared.fault.PduFault.TheVariants as faults
use Rattle.pdu.specs.declared.reject.Reject.{Reject}
use Rattle.pdu.specs.declared.request.Request.{Request}
use Rattle.pdu.specs.Spelling.{IsPdu}
use Rattle.ul_state.specs.declared.event.Event.{Event}
use Rattle.ul_state.specs.declared.event.Event.TheVariants as events
use Rattle.ul_state.specs.declared.event.Action.{Action}
use Rattle.ul_state.specs.declared.event.Action.TheVariants as actions
use Rattle.ul_state.specs.declared.table.State.{State}
use Rattle.ul_state.specs.declared.table.Kind.{Kind}
use Rattle.ul_state.specs.declared.table.Kind.TheVariants as kinds
use Rattle.ul_state.specs.declared.table.ActionKind.{ActionKind}
use Rattle.ul_state.specs.declared.table.ActionKind.TheVariants as does
use Rattle.ul_state.specs.declared.titles.Title.{Title}
use Rattle.ul_state.specs.declared.acceptor.Settled.{Settled}
use Rattle.ul_state.specs.Titles.{without_spaces}
use Rattle.ul_state.specs.Answer.{accept_for, contexts_for}
use Rattle.ul_state.specs.Decision.{value_for}
use Rattle.ul_state.specs.Table.{action_of, next_of, provider_reason}

-- ---- the kind of an event

abbrev pub kind_for_request : {V : Type 0} → Result V Reject → Kind
kind_for_request (Ok value) = kinds.AcceptableRq
kind_for_request (Err reject) = kinds.OtherRq

abbrev pub kind_for_pdu : {V : Type 0} → List (Title V) → Pdu → Kind
kind_for_pdu titles (pdus.AssociateRq request) = kind_for_request (value_for titles request)
kind_for_pdu titles (pdus.AssociateAc accept) = kinds.OtherPdu
kind_for_pdu titles (pdus.AssociateRj reject) = kinds.OtherPdu
kind_for_pdu titles (pdus.PData values) = kinds.PData
kind_for_pdu titles pdus.ReleaseRq = kinds.ReleaseRq
kind_for_pdu titles pdus.ReleaseRp = kinds.OtherPdu
kind_for_pdu titles (pdus.Abort source reason) = kinds.Abort

abbrev pub kind_for_fault : PduFault → Kind
kind_for_fault faults.UnknownType = kinds.UnknownPdu
kind_for_fault faults.BadLength = kinds.FaultyPdu
kind_for_fault faults.BadItem = kinds.FaultyPdu
kind_for_fault faults.TooLong = kinds.FaultyPdu
kind_for_fault faults.Memory = kinds.FaultyPdu

abbrev pub kind_for : {V : Type 0} → List (Title V) → Event → Kind
kind_for titles (events.Got pdu) = kind_for_pdu titles pdu
kind_for titles (events.Bad fault) = kind_for_fault fault
kind_for titles events.Ended = kinds.StreamEnd
kind_for titles events.LocalAbort = kinds.LocalAbort

-- ---- what is sent or handed on

abbrev pub acceptance_for : Event → Option Action
acceptance_for (events.Got (pdus.AssociateRq request)) = Some (actions.Send (pdus.AssociateAc (accept_for request)))
acceptance_for _ = None

abbrev pub rejected_with : {V : Type 0} → Result V Reject → Option Action
rejected_with (Ok value) = None
rejected_with (Err reject) = Some (actions.Send (pdus.AssociateRj reject))

abbrev pub rejection_for : {V : Type 0} → List (Title V) → Event → Option Action
rejection_for titles (events.Got (pdus.AssociateRq request)) = rejected_with (value_for titles request)
rejection_for titles _ = None

abbrev pub hand_for : Event → Option Action
hand_for (events.Got (pdus.PData values)) = Some (actions.Hand values)
hand_for _ = None

abbrev pub action_for : {V : Type 0} → ActionKind → Kind → List (Title V) → Event → Option Action
action_for does.Nothing kind titles event = None
action_for does.SendAccept kind titles event = acceptance_for event
action_for does.SendReject kind titles event = rejection_for titles event
action_for does.SendReleaseRp kind titles event = Some (actions.Send pdus.ReleaseRp)
action_for does.AbortAsUser kind titles event = Some (actions.Send (pdus.Abort 0 0))
action_for does.AbortAsProvider kind titles event = Some (actions.Send (pdus.Abort 2 (provider_reason kind)))
action_for does.HandOn kind titles event = hand_for event
action_for does.Close kind titles event = Some actions.Close

-- what is asked of the caller on an event, where anything is: the row's action
abbrev pub action_on : {V : Type 0} → State → List (Title V) → Event → Option Action
action_on state titles event = action_for (action_of state (kind_for titles event)) (kind_for titles event) titles event

-- where an event leads
abbrev pub state_on : {V : Type 0} → State → List (Title V) → Event → State
state_on state titles event = next_of state (kind_for titles event)

-- where events lead, one after another
abbrev pub state_after_events : {V : Type 0} → State → List (Title V) → List Event → State
state_after_events state titles [] = state
state_after_events state titles (event ∷ events) = state_after_events (state_on state titles event) titles events

-- ---- what can be written

-- a PDU that was read can be written
abbrev pub HasLawfulPdu : Event → Type 0
HasLawfulPdu (events.Got pdu) = IsPdu pdu
HasLawfulPdu (events.Bad fault) = ⊤
HasLawfulPdu events.Ended = ⊤
HasLawfulPdu events.LocalAbort = ⊤

-- a PDU that is sent can be written
abbrev pub CanBeWritten : Action → Type 0
CanBeWritten (actions.Send pdu) = IsPdu pdu
CanBeWritten (actions.Hand values) = ⊤
CanBeWritten actions.Close = ⊤

-- ---- what an acceptance settles

abbrev pub settled_with : {V : Type 0} → Request → Result V Reject → Option (Settled V)
settled_with request (Ok value) = Some (record {
  title = without_spaces request.opening.called;
  contexts = contexts_for
      request;
  value = value;
})
settled_with request (Err reject) = None

abbrev pub settled_for : {V : Type 0} → List (Title V) → Event → Option (Settled V)
settled_for titles (events.Got (pdus.AssociateRq request)) = settled_with request (value_for titles request)
settled_for titles _ = None

-- an acceptance settles anew, and nothing else does
abbrev pub settled_on : {S : Type 0} → ActionKind → Option S → Option S → Option S
settled_on does.SendAccept new old = new
settled_on does.Nothing new old = old
settled_on does.SendReject new old = old
settled_on does.SendReleaseRp new old = old
settled_on does.AbortAsUser new old = old
settled_on does.AbortAsProvider new old = old
settled_on does.HandOn new old = old
settled_on does.Close new old = old

abbrev pub settled_by : {V : Type 0} → State → List (Title V) → Event → Option (Settled V) → Option (Settled V)
settled_by state titles event old = settled_on (action_of state (kind_for titles event)) (settled_for titles event) old
