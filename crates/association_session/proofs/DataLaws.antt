-- Where P-DATA-TFs lead, and when they may be sent.
use Rattle.std.proofs.Common.{◌≡◌, List, [], ◌∷◌, ◌++◌, map, refl, sym, ap, ◌∙◌, append-nil}
use Rattle.pdu.specs.declared.value.Pdu.{Pdu}
use Rattle.pdu.specs.declared.value.Pdu.TheVariants as pdus
use Rattle.ul_state.specs.declared.table.State.{State}
use Rattle.ul_state.specs.declared.table.State.TheVariants.{Sta6}
use Rattle.association_services.proofs.DataLaws.{AreData}
use Rattle.association_session.specs.declared.deed.Deed.{Deed}
use Rattle.association_session.specs.declared.deed.Deed.TheVariants.{Send}
use Rattle.association_session.specs.Order.{IsOrderly}
use Rattle.association_session.specs.Projections.{state_after}

-- P-DATA-TFs lead nowhere else.
pub data_then : (s : State) (ps : List Pdu) (rest : List Deed) → AreData ps
    → state_after s (map Send ps ++ rest) ≡ state_after s rest
data_then s [] rest p = refl
data_then s (pdus.PData values ∷ ps) rest p = data_then s ps rest p
data_then s (pdus.AssociateRq request ∷ ps) rest p = absurd p
data_then s (pdus.AssociateAc accept ∷ ps) rest p = absurd p
data_then s (pdus.AssociateRj reject ∷ ps) rest p = absurd p
data_then s (pdus.ReleaseRq ∷ ps) rest p = absurd p
data_then s (pdus.ReleaseRp ∷ ps) rest p = absurd p
data_then s (pdus.Abort source reason ∷ ps) rest p = absurd p

pub data_state : (s : State) (ps : List Pdu) → AreData ps → state_after s (map Send ps) ≡ s
data_state s ps p = ap (λ (t : List Deed). state_after s t) (sym (append-nil (map Send ps))) ∙ data_then s ps [] p

-- They may be sent while the association is established.
pub data_orderly : (ps : List Pdu) (rest : List Deed) → AreData ps → IsOrderly Sta6 rest
    → IsOrderly Sta6 (map Send ps ++ rest)
data_orderly [] rest p q = q
data_orderly (pdus.PData values ∷ ps) rest p q = (tt, data_orderly ps rest p q)
data_orderly (pdus.AssociateRq request ∷ ps) rest p q = absurd p
data_orderly (pdus.AssociateAc accept ∷ ps) rest p q = absurd p
data_orderly (pdus.AssociateRj reject ∷ ps) rest p q = absurd p
data_orderly (pdus.ReleaseRq ∷ ps) rest p q = absurd p
data_orderly (pdus.ReleaseRp ∷ ps) rest p q = absurd p
data_orderly (pdus.Abort source reason ∷ ps) rest p q = absurd p
