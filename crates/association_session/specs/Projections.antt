-- What of the deeds the writer, the gate and the port see, and where they lead.
use Rattle.std.specs.Prelude.{◌≡◌, List, [], ◌∷◌, ◌++◌}
use Rattle.pdu.specs.declared.value.Pdu.{Pdu}
use Rattle.pdu.specs.declared.value.Pdu.TheVariants.{AssociateRq, AssociateAc, AssociateRj, PData, ReleaseRq, ReleaseRp}
use Rattle.pdu.specs.declared.value.Pdu.TheVariants.{Abort}
use Rattle.ul_state.specs.declared.table.State.{State}
use Rattle.ul_state.specs.declared.table.State.TheVariants.{Sta1, Sta6, Sta13}
use Rattle.association_services.specs.declared.call.Call.{Call}
use Rattle.association_session.specs.declared.deed.Deed.{Deed}
use Rattle.association_session.specs.declared.deed.Deed.TheVariants.{Send, Reach, Ask, Close}
use Rattle.association_session.specs.declared.deed.Moment.{Moment}

-- these come first in all
abbrev pub IsFront : {A : Type 0} → List A → List A → Type 0
IsFront {A = A} xs all = (more : List A) × (all ≡ xs ++ more)

-- the PDUs that are sent
abbrev pub sent_in : List Deed → List Pdu
sent_in [] = []
sent_in (Send pdu ∷ ds) = pdu ∷ sent_in ds
sent_in (Reach moment ∷ ds) = sent_in ds
sent_in (Ask call ∷ ds) = sent_in ds
sent_in (Close ∷ ds) = sent_in ds

-- the moments at which the gate is reached
abbrev pub moments_in : List Deed → List Moment
moments_in [] = []
moments_in (Send pdu ∷ ds) = moments_in ds
moments_in (Reach moment ∷ ds) = moment ∷ moments_in ds
moments_in (Ask call ∷ ds) = moments_in ds
moments_in (Close ∷ ds) = moments_in ds

-- the calls of the port
abbrev pub calls_in : List Deed → List Call
calls_in [] = []
calls_in (Send pdu ∷ ds) = calls_in ds
calls_in (Reach moment ∷ ds) = calls_in ds
calls_in (Ask call ∷ ds) = call ∷ calls_in ds
calls_in (Close ∷ ds) = calls_in ds

-- ---- where deeds lead (PS3.8, 9.2)

-- An acceptance establishes the association; a rejection, a release response or an abort says goodbye.
abbrev pub state_by_pdu : State → Pdu → State
state_by_pdu state (AssociateAc accept) = Sta6
state_by_pdu state (AssociateRj reject) = Sta13
state_by_pdu state ReleaseRp = Sta13
state_by_pdu state (Abort source reason) = Sta13
state_by_pdu state (AssociateRq request) = state
state_by_pdu state (PData values) = state
state_by_pdu state ReleaseRq = state

-- the acceptor's state after these deeds
abbrev pub state_after : State → List Deed → State
state_after state [] = state
state_after state (Send pdu ∷ ds) = state_after (state_by_pdu state pdu) ds
state_after state (Reach moment ∷ ds) = state_after state ds
state_after state (Ask call ∷ ds) = state_after state ds
state_after state (Close ∷ ds) = state_after Sta1 ds
