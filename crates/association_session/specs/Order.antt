-- What holds of every list of deeds.
use Rattle.std.specs.Prelude.{◌≡◌, List, [], ◌∷◌, ⊤}
use Rattle.pdu.specs.declared.value.Pdu.TheVariants.{AssociateRq, AssociateAc, AssociateRj, PData, ReleaseRq, ReleaseRp}
use Rattle.pdu.specs.declared.value.Pdu.TheVariants.{Abort}
use Rattle.ul_state.specs.declared.table.State.{State}
use Rattle.ul_state.specs.declared.table.State.TheVariants.{Sta1, Sta2, Sta6, Sta13}
use Rattle.association_session.specs.declared.deed.Deed.{Deed}
use Rattle.association_session.specs.declared.deed.Deed.TheVariants.{Send, Reach, Ask, Close}
use Rattle.association_services.specs.declared.reply.Reply.{Reply}
use Rattle.association_session.specs.Projections.{state_after}

-- What may be done in a state (PS3.8, 9.2): anything while the association is established; before it no call of the
-- port; once goodbye was
-- said an abort or a close; and nothing once the connection is closed.
abbrev pub MayDo : State → Deed → Type 0
MayDo Sta1 deed = ⊥
MayDo Sta2 (Send pdu) = ⊤
MayDo Sta2 Close = ⊤
MayDo Sta2 (Reach moment) = ⊥
MayDo Sta2 (Ask call) = ⊥
MayDo Sta6 deed = ⊤
MayDo Sta13 (Send (Abort source reason)) = ⊤
MayDo Sta13 (Send (AssociateRq request)) = ⊥
MayDo Sta13 (Send (AssociateAc accept)) = ⊥
MayDo Sta13 (Send (AssociateRj reject)) = ⊥
MayDo Sta13 (Send (PData values)) = ⊥
MayDo Sta13 (Send ReleaseRq) = ⊥
MayDo Sta13 (Send ReleaseRp) = ⊥
MayDo Sta13 Close = ⊤
MayDo Sta13 (Reach moment) = ⊥
MayDo Sta13 (Ask call) = ⊥

-- Each deed is one that may be done where those before it lead.
abbrev pub IsOrderly : State → List Deed → Type 0
IsOrderly state [] = ⊤
IsOrderly state (d ∷ ds) = MayDo state d × IsOrderly (state_after state (d ∷ [])) ds

-- Behind a call nothing is done before its reply.
abbrev pub IsReplied : List Reply → List Deed → Type 0
IsReplied rs [] = ⊤
IsReplied [] (Ask call ∷ ds) = ds ≡ []
IsReplied (r ∷ rs) (Ask call ∷ ds) = IsReplied rs ds
IsReplied rs (Send pdu ∷ ds) = IsReplied rs ds
IsReplied rs (Reach moment ∷ ds) = IsReplied rs ds
IsReplied rs (Close ∷ ds) = IsReplied rs ds
