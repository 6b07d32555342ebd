-- What is handed on, and in which state.
use Rattle.std.proofs.Common.{◌≡◌, List, [], ◌∷◌, Option, Some, Result, Ok, Err, refl, sym, ap, ◌∙◌}
use Rattle.std.specs.Prelude.{map}
use Rattle.pdu.specs.declared.pdv.Pdv.{Pdv}
use Rattle.pdu.specs.declared.value.Pdu.TheVariants as pdus
use Rattle.pdu.specs.declared.reject.Reject.{Reject}
use Rattle.ul_state.specs.declared.event.Event.{Event}
use Rattle.ul_state.specs.declared.event.Event.TheVariants as events
use Rattle.ul_state.specs.declared.event.Action.{Action}
use Rattle.ul_state.specs.declared.event.Action.TheVariants.{Hand}
use Rattle.ul_state.specs.declared.table.State.{State}
use Rattle.ul_state.specs.declared.table.State.TheVariants.{Sta1, Sta2, Sta6, Sta13}
use Rattle.ul_state.specs.declared.table.Kind.{Kind}
use Rattle.ul_state.specs.declared.table.Kind.TheVariants.{AcceptableRq, OtherRq, PData, ReleaseRq, Abort, OtherPdu}
use Rattle.ul_state.specs.declared.table.Kind.TheVariants.{UnknownPdu, FaultyPdu, StreamEnd, LocalAbort}
use Rattle.ul_state.specs.declared.table.ActionKind.{ActionKind}
use Rattle.ul_state.specs.declared.table.ActionKind.TheVariants as rows
use Rattle.ul_state.specs.declared.titles.Title.{Title}
use Rattle.ul_state.specs.Decision.{value_for}
use Rattle.ul_state.specs.Table.{action_of, state_after}
use Rattle.ul_state.specs.Acceptor.{kind_for, acceptance_for, rejected_with, rejection_for, hand_for, action_for}
use Rattle.ul_state.specs.Acceptor.{action_on, state_on, state_after_events}
use Rattle.ul_state.proofs.Runs.{closing_hands_nothing_on}

-- the action is to hand these values on
abbrev pub HandsOn : Option Action → List Pdv → Type 0
HandsOn action values = action ≡ Some (Hand values)

acceptance_hands_nothing : (event : Event) (values : List Pdv) → HandsOn (acceptance_for event) values → ⊥
acceptance_hands_nothing (events.Got (pdus.AssociateRq request)) values e = cc
acceptance_hands_nothing _ values e = cc

refusal_hands_nothing : {V : Type 0} (value : Result V Reject) (values : List Pdv) → HandsOn (rejected_with value)
    values → ⊥
refusal_hands_nothing (Ok value) values e = cc
refusal_hands_nothing (Err reject) values e = cc

rejection_hands_nothing : {V : Type 0} (titles : List (Title V)) (event : Event) (values : List Pdv)
    → HandsOn (rejection_for titles event) values → ⊥
rejection_hands_nothing titles (events.Got (pdus.AssociateRq request)) values e = refusal_hands_nothing
    (value_for titles request) values e
rejection_hands_nothing titles _ values e = cc

same_values : (values others : List Pdv) → Some (Hand values) ≡ Some (Hand others) → values ≡ others
same_values values others e = cc

handed_data : (event : Event) (values : List Pdv) → HandsOn (hand_for event) values
    → event ≡ events.Got (pdus.PData values)
handed_data (events.Got (pdus.PData others)) values e = ap (λ (vs : List Pdv). events.Got (pdus.PData vs))
    (same_values others values e)
handed_data _ values e = absurd cc

-- Only the row that hands on does so, and then the event's own values.
handed : {V : Type 0} (does : ActionKind) (kind : Kind) (titles : List (Title V)) (event : Event) (values : List Pdv)
    → HandsOn (action_for does kind titles event) values → (does ≡ rows.HandOn)
    × (event ≡ events.Got (pdus.PData values))
handed rows.Nothing kind titles event values e = absurd cc
handed rows.SendAccept kind titles event values e = absurd (acceptance_hands_nothing event values e)
handed rows.SendReject kind titles event values e = absurd (rejection_hands_nothing titles event values e)
handed rows.SendReleaseRp kind titles event values e = absurd cc
handed rows.AbortAsUser kind titles event values e = absurd cc
handed rows.AbortAsProvider kind titles event values e = absurd cc
handed rows.HandOn kind titles event values e = (refl, handed_data event values e)
handed rows.Close kind titles event values e = absurd cc

-- Only an association has such a row.
hands_on_open : (state : State) (kind : Kind) → action_of state kind ≡ rows.HandOn → state ≡ Sta6
hands_on_open Sta1 kind e = absurd cc
hands_on_open Sta6 kind e = refl
hands_on_open Sta2 AcceptableRq e = absurd cc
hands_on_open Sta2 OtherRq e = absurd cc
hands_on_open Sta2 PData e = absurd cc
hands_on_open Sta2 ReleaseRq e = absurd cc
hands_on_open Sta2 Abort e = absurd cc
hands_on_open Sta2 OtherPdu e = absurd cc
hands_on_open Sta2 UnknownPdu e = absurd cc
hands_on_open Sta2 FaultyPdu e = absurd cc
hands_on_open Sta2 StreamEnd e = absurd cc
hands_on_open Sta2 LocalAbort e = absurd cc
hands_on_open Sta13 kind e = absurd (closing_hands_nothing_on [] kind e)

pub handed_in_an_association : {V : Type 0} (state : State) (titles : List (Title V)) (event : Event)
    (values : List Pdv) → HandsOn (action_on state titles event) values → state ≡ Sta6
handed_in_an_association state titles event values e =
    hands_on_open state (kind_for titles event) (handed (action_of state (kind_for titles event))
    (kind_for titles event) titles event values e).0

pub handed_what_came : {V : Type 0} (state : State) (titles : List (Title V)) (event : Event) (values : List Pdv)
    → HandsOn (action_on state titles event) values → event ≡ events.Got (pdus.PData values)
handed_what_came state titles event values e = (handed (action_of state (kind_for titles event)) (kind_for titles event)
    titles event values e).1

-- A run over events is the table's over their kinds.
kinds_after : {V : Type 0} (state : State) (titles : List (Title V)) (es : List Event) → state_after_events state titles
    es ≡ state_after state (map (kind_for titles) es)
kinds_after state titles [] = refl
kinds_after state titles (event ∷ es) = kinds_after (state_on state titles event) titles es

pub nothing_handed_after_goodbye : {V : Type 0} (titles : List (Title V)) (es : List Event) (event : Event)
    (values : List Pdv) → HandsOn (action_on (state_after_events Sta13 titles es) titles event) values → ⊥
nothing_handed_after_goodbye titles es event values e =
    let state = state_after_events Sta13 titles es in
    let here = (handed (action_of state (kind_for titles event)) (kind_for titles event) titles event values e).0 in
    closing_hands_nothing_on (map (kind_for titles) es) (kind_for titles event)
    (ap (λ (s : State). action_of s (kind_for titles event)) (sym (kinds_after Sta13 titles es)) ∙ here)
