-- What leads into an association, and what leads out of none.
use Rattle.std.proofs.Common.{◌≡◌, cond, Option, refl}
use Rattle.ul_state.specs.declared.table.State.{State}
use Rattle.ul_state.specs.declared.table.State.TheVariants.{Sta1, Sta2, Sta6, Sta13}
use Rattle.ul_state.specs.declared.table.Kind.{Kind}
use Rattle.ul_state.specs.declared.table.Kind.TheVariants.{AcceptableRq, OtherRq, PData, ReleaseRq, Abort, OtherPdu}
use Rattle.ul_state.specs.declared.table.Kind.TheVariants.{UnknownPdu, FaultyPdu, StreamEnd, LocalAbort}
use Rattle.ul_state.specs.Table.{action_of, next_of, opens, IsLeft}
use Rattle.ul_state.specs.Acceptor.{settled_on}

abbrev SettlesWhereItOpens : {S : Type 0} → State → Kind → Option S → Option S → Type 0
SettlesWhereItOpens state kind new old = settled_on (action_of state kind) new old ≡ cond
    (opens state (next_of state kind)) new old

awaiting : {S : Type 0} (kind : Kind) (new old : Option S) → SettlesWhereItOpens Sta2 kind new old
awaiting AcceptableRq new old = refl
awaiting OtherRq new old = refl
awaiting PData new old = refl
awaiting ReleaseRq new old = refl
awaiting Abort new old = refl
awaiting OtherPdu new old = refl
awaiting UnknownPdu new old = refl
awaiting FaultyPdu new old = refl
awaiting StreamEnd new old = refl
awaiting LocalAbort new old = refl

established : {S : Type 0} (kind : Kind) (new old : Option S) → SettlesWhereItOpens Sta6 kind new old
established AcceptableRq new old = refl
established OtherRq new old = refl
established PData new old = refl
established ReleaseRq new old = refl
established Abort new old = refl
established OtherPdu new old = refl
established UnknownPdu new old = refl
established FaultyPdu new old = refl
established StreamEnd new old = refl
established LocalAbort new old = refl

leaving : {S : Type 0} (kind : Kind) (new old : Option S) → SettlesWhereItOpens Sta13 kind new old
leaving AcceptableRq new old = refl
leaving OtherRq new old = refl
leaving PData new old = refl
leaving ReleaseRq new old = refl
leaving Abort new old = refl
leaving OtherPdu new old = refl
leaving UnknownPdu new old = refl
leaving FaultyPdu new old = refl
leaving StreamEnd new old = refl
leaving LocalAbort new old = refl

pub settles_where_it_opens : {S : Type 0} (state : State) (kind : Kind) (new old : Option S)
    → settled_on (action_of state kind) new old ≡ cond (opens state (next_of state kind)) new old
settles_where_it_opens Sta1 kind new old = refl
settles_where_it_opens Sta2 kind new old = awaiting kind new old
settles_where_it_opens Sta6 kind new old = established kind new old
settles_where_it_opens Sta13 kind new old = leaving kind new old

left_after : (kind : Kind) → IsLeft (next_of Sta13 kind)
left_after AcceptableRq = tt
left_after OtherRq = tt
left_after PData = tt
left_after ReleaseRq = tt
left_after Abort = tt
left_after OtherPdu = tt
left_after UnknownPdu = tt
left_after FaultyPdu = tt
left_after StreamEnd = tt
left_after LocalAbort = tt

-- Nothing leads back.
pub stays_left : (state : State) (kind : Kind) → IsLeft state → IsLeft (next_of state kind)
stays_left Sta1 kind left = tt
stays_left Sta2 kind left = absurd left
stays_left Sta6 kind left = absurd left
stays_left Sta13 kind left = left_after kind
