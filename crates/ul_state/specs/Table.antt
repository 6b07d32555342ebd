-- The acceptor's rows of PS3.8, Table 9-10, in the states in use.
use Rattle.std.specs.Prelude.{ℕ, ◌+◌, Bool, true, false, List, [], ◌∷◌, ⊤}
use Rattle.ul_state.specs.declared.table.State.{State}
use Rattle.ul_state.specs.declared.table.State.TheVariants.{Sta1, Sta2, Sta6, Sta13}
use Rattle.ul_state.specs.declared.table.Kind.{Kind}
use Rattle.ul_state.specs.declared.table.Kind.TheVariants.{AcceptableRq, OtherRq, PData, ReleaseRq, Abort, OtherPdu}
use Rattle.ul_state.specs.declared.table.Kind.TheVariants.{UnknownPdu, FaultyPdu, StreamEnd, LocalAbort}
use Rattle.ul_state.specs.declared.table.ActionKind.{ActionKind}
use Rattle.ul_state.specs.declared.table.ActionKind.TheVariants.{Nothing, SendAccept, SendReject, SendReleaseRp}
use Rattle.ul_state.specs.declared.table.ActionKind.TheVariants.{AbortAsUser}
use Rattle.ul_state.specs.declared.table.ActionKind.TheVariants.{AbortAsProvider, HandOn, Close}

-- what the machine does
abbrev pub action_of : State → Kind → ActionKind
action_of Sta1 kind = Nothing
action_of Sta2 AcceptableRq = SendAccept
action_of Sta2 OtherRq = SendReject
action_of Sta2 Abort = Close
action_of Sta2 StreamEnd = Close
action_of Sta2 PData = AbortAsUser
action_of Sta2 ReleaseRq = AbortAsUser
action_of Sta2 OtherPdu = AbortAsUser
action_of Sta2 UnknownPdu = AbortAsUser
action_of Sta2 FaultyPdu = AbortAsUser
action_of Sta2 LocalAbort = Nothing
action_of Sta6 PData = HandOn
action_of Sta6 ReleaseRq = SendReleaseRp
action_of Sta6 Abort = Close
action_of Sta6 StreamEnd = Close
action_of Sta6 AcceptableRq = AbortAsProvider
action_of Sta6 OtherRq = AbortAsProvider
action_of Sta6 OtherPdu = AbortAsProvider
action_of Sta6 UnknownPdu = AbortAsProvider
action_of Sta6 FaultyPdu = AbortAsProvider
action_of Sta6 LocalAbort = AbortAsUser
action_of Sta13 AcceptableRq = AbortAsProvider
action_of Sta13 OtherRq = AbortAsProvider
action_of Sta13 UnknownPdu = AbortAsProvider
action_of Sta13 FaultyPdu = AbortAsProvider
action_of Sta13 Abort = Close
action_of Sta13 StreamEnd = Close
action_of Sta13 PData = Nothing
action_of Sta13 ReleaseRq = Nothing
action_of Sta13 OtherPdu = Nothing
action_of Sta13 LocalAbort = Nothing

-- where it leads: what says goodbye waits for the peer to close, and a close ends in Sta1
abbrev pub state_from : State → ActionKind → State
state_from state Nothing = state
state_from state HandOn = state
state_from state SendAccept = Sta6
state_from state SendReject = Sta13
state_from state SendReleaseRp = Sta13
state_from state AbortAsUser = Sta13
state_from state AbortAsProvider = Sta13
state_from state Close = Sta1

abbrev pub next_of : State → Kind → State
next_of state kind = state_from state (action_of state kind)

-- The association is established between these states.
abbrev pub opens : State → State → Bool
opens Sta2 Sta6 = true
opens Sta2 Sta1 = false
opens Sta2 Sta2 = false
opens Sta2 Sta13 = false
opens Sta1 after = false
opens Sta6 after = false
opens Sta13 after = false

-- Goodbye was said, or the connection is closed.
abbrev pub IsLeft : State → Type 0
IsLeft Sta1 = ⊤
IsLeft Sta2 = ⊥
IsLeft Sta6 = ⊥
IsLeft Sta13 = ⊤

-- the reason of an A-ABORT of the provider (PS3.8, 9.3.8)
abbrev pub provider_reason : Kind → ℕ
provider_reason UnknownPdu = 1
provider_reason FaultyPdu = 6
provider_reason AcceptableRq = 2
provider_reason OtherRq = 2
provider_reason PData = 2
provider_reason ReleaseRq = 2
provider_reason Abort = 2
provider_reason OtherPdu = 2
provider_reason StreamEnd = 0
provider_reason LocalAbort = 0

-- ---- over a run

abbrev pub state_after : State → List Kind → State
state_after state [] = state
state_after state (kind ∷ kinds) = state_after (next_of state kind) kinds

abbrev pub is_acceptance : ActionKind → ℕ
is_acceptance SendAccept = 1
is_acceptance SendReject = 0
is_acceptance SendReleaseRp = 0
is_acceptance AbortAsUser = 0
is_acceptance AbortAsProvider = 0
is_acceptance HandOn = 0
is_acceptance Close = 0
is_acceptance Nothing = 0

-- an acceptance or a rejection
abbrev pub is_answer : ActionKind → ℕ
is_answer SendAccept = 1
is_answer SendReject = 1
is_answer SendReleaseRp = 0
is_answer AbortAsUser = 0
is_answer AbortAsProvider = 0
is_answer HandOn = 0
is_answer Close = 0
is_answer Nothing = 0

-- how many acceptances are sent
abbrev pub acceptances_in : State → List Kind → ℕ
acceptances_in state [] = 0
acceptances_in state (kind ∷ kinds) = is_acceptance (action_of state kind) + acceptances_in (next_of state kind) kinds

-- how many acceptances and rejections are sent
abbrev pub answers_in : State → List Kind → ℕ
answers_in state [] = 0
answers_in state (kind ∷ kinds) = is_answer (action_of state kind) + answers_in (next_of state kind) kinds
