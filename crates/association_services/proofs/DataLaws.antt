-- What is sent as a message is P-DATA-TFs alone.
use Rattle.std.proofs.Common.{◌≡◌, ℕ, Bool, true, false, List, [], ◌∷◌, ◌++◌, Option, Some, None, sym, subst, drop}
use Rattle.std.specs.Prelude.{MatchOption, ⊤}
use Rattle.data_set.specs.Set.{Set}
use Rattle.pdu.specs.declared.value.Pdu.{Pdu}
use Rattle.pdu.specs.declared.value.Pdu.TheVariants as pdus
use Rattle.dimse.specs.declared.message.Message.{Message}
use Rattle.dimse.specs.Sending.{Sends, IsSending, size_of}
use Rattle.association_services.specs.declared.service.RowKind.{RowKind}
use Rattle.association_services.specs.Find.{AreRows}
use Rattle.association_services.specs.Response.{Awaited}
use Rattle.association_services.specs.Retrieval.{RespondsIfLeft, RespondsBy}
use Rattle.association_services.specs.SubOperation.{Retrieval}
use Rattle.association_services.specs.declared.retrieval.Progress.{Progress}
use Rattle.archive_model.specs.declared.listed.Listed.{Listed}

-- Each is a P-DATA-TF.
abbrev pub AreData : List Pdu → Type 0
AreData [] = ⊤
AreData (pdus.PData values ∷ ps) = AreData ps
AreData (pdus.AssociateRq request ∷ ps) = ⊥
AreData (pdus.AssociateAc accept ∷ ps) = ⊥
AreData (pdus.AssociateRj reject ∷ ps) = ⊥
AreData (pdus.ReleaseRq ∷ ps) = ⊥
AreData (pdus.ReleaseRp ∷ ps) = ⊥
AreData (pdus.Abort source reason ∷ ps) = ⊥

data_append : (xs ys : List Pdu) → AreData xs → AreData ys → AreData (xs ++ ys)
data_append [] ys p q = q
data_append (pdus.PData values ∷ xs) ys p q = data_append xs ys p q
data_append (pdus.AssociateRq request ∷ xs) ys p q = absurd p
data_append (pdus.AssociateAc accept ∷ xs) ys p q = absurd p
data_append (pdus.AssociateRj reject ∷ xs) ys p q = absurd p
data_append (pdus.ReleaseRq ∷ xs) ys p q = absurd p
data_append (pdus.ReleaseRp ∷ xs) ys p q = absurd p
data_append (pdus.Abort source reason ∷ xs) ys p q = absurd p

sends_data : (size context : ℕ) (command : Bool) (text : List ℕ) (ps : List Pdu) → Sends size context command text ps
    → AreData ps
sends_data size context command text [] p = absurd p
sends_data size context command text (x ∷ []) p = subst (λ (t : Pdu). AreData (t ∷ [])) (sym p.1) tt
sends_data size context command text (x ∷ y ∷ ps) p =
    subst (λ (t : Pdu). AreData (t ∷ y ∷ ps)) (sym p.1) (sends_data size context command (drop size text) (y ∷ ps) p.2)

body_data : (size context : ℕ) (body : Option (List ℕ)) (ps : List Pdu)
    → MatchOption body (ps ≡ []) (λ text. Sends size context false text ps) → AreData ps
body_data size context None ps p = subst (λ (t : List Pdu). AreData t) (sym p) tt
body_data size context (Some text) ps p = sends_data size context false text ps p

pub sending_data : (m : Message) (max : ℕ) (ps : List Pdu) → IsSending m max ps → AreData ps
sending_data m max ps p = subst (λ (t : List Pdu). AreData t) (sym p.parts)
    (data_append p.of_command p.of_data (sends_data _ _ _ _ p.of_command p.command)
    (body_data (size_of max) m.context m.body p.of_data p.data_set))

pub rows_data : (a : Awaited) (kind : RowKind) (rows : List Set) (ps : List Pdu) → AreRows a kind rows ps → AreData ps
rows_data a kind [] ps p = subst (λ (t : List Pdu). AreData t) (sym p) tt
rows_data a kind (row ∷ rows) ps p = subst (λ (t : List Pdu). AreData t) (sym p.4)
    (data_append p.0 p.1 (sending_data _ _ p.0 p.2) (rows_data a kind rows p.1 p.3))

pub if_left_data : (g : Progress) (left : List Listed) (ps : List Pdu) → RespondsIfLeft g left ps → AreData ps
if_left_data g [] ps p = subst (λ (t : List Pdu). AreData t) (sym p) tt
if_left_data g (x ∷ left) ps p = sending_data _ _ ps p

pub responds_by_data : (cancelled : Bool) (g : Progress) (left : List Listed) (ps : List Pdu)
    (next : Option Retrieval) → RespondsBy cancelled g left ps next → AreData ps
responds_by_data true g left ps next p = sending_data _ _ ps p.0
responds_by_data false g left ps next p = if_left_data g left ps p.0
