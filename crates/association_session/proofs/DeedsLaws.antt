-- What deeds send that are kept, one after another.
use Rattle.std.proofs.Common.{◌≡◌, Bool, false, List, [], ◌∷◌, ◌++◌, map, refl, ap, ◌∙◌}
use Rattle.std.specs.Prelude.{◌||◌}
use Rattle.std.specs.List.{AllByRecursion, list_any}
use Rattle.std.proofs.lemmas.List.Concat.{flat_map-cons}
use Rattle.std.proofs.lemmas.List.Folds.{list_any-append}
use Rattle.pdu.specs.declared.value.Pdu.{Pdu}
use Rattle.pdu.specs.declared.value.Pdu.TheVariants.{AssociateRq, AssociateAc, AssociateRj, PData, ReleaseRq, ReleaseRp}
use Rattle.pdu.specs.declared.value.Pdu.TheVariants.{Abort}
use Rattle.dimse.specs.Cut.{IsData}
use Rattle.association_session.specs.declared.deed.Deed.{Deed}
use Rattle.association_session.specs.declared.deed.Deed.TheVariants.{Send}
use Rattle.association_session.specs.declared.deeds.Outgoing.{Outgoing}
use Rattle.association_session.specs.inner.Deeds.{deeds_of_outgoing, deeds_in}
use Rattle.association_session.specs.Session.{is_abort, is_release}

-- No fragment is an A-ABORT.
pub no_abort : (pdus : List Pdu) → AllByRecursion IsData pdus → list_any is_abort (map Send pdus) ≡ false
no_abort [] are = refl
no_abort (PData values ∷ pdus) are = no_abort pdus are.1
no_abort (AssociateRq r ∷ pdus) are = absurd are.0
no_abort (AssociateAc r ∷ pdus) are = absurd are.0
no_abort (AssociateRj r ∷ pdus) are = absurd are.0
no_abort (ReleaseRq ∷ pdus) are = absurd are.0
no_abort (ReleaseRp ∷ pdus) are = absurd are.0
no_abort (Abort source reason ∷ pdus) are = absurd are.0

-- No fragment is an A-RELEASE-RP.
pub no_release : (pdus : List Pdu) → AllByRecursion IsData pdus → list_any is_release (map Send pdus) ≡ false
no_release [] are = refl
no_release (PData values ∷ pdus) are = no_release pdus are.1
no_release (AssociateRq r ∷ pdus) are = absurd are.0
no_release (AssociateAc r ∷ pdus) are = absurd are.0
no_release (AssociateRj r ∷ pdus) are = absurd are.0
no_release (ReleaseRq ∷ pdus) are = absurd are.0
no_release (ReleaseRp ∷ pdus) are = absurd are.0
no_release (Abort source reason ∷ pdus) are = absurd are.0

any_in : (p : Deed → Bool) (parts : List Outgoing) → list_any p (deeds_in parts)
    ≡ list_any (λ outgoing. list_any p (deeds_of_outgoing outgoing)) parts
any_in p [] = refl
any_in p (outgoing ∷ parts) = ap (list_any p) (flat_map-cons deeds_of_outgoing outgoing parts)
    ∙ list_any-append p (deeds_of_outgoing outgoing) (deeds_in parts)
    ∙ ap (λ (b : Bool). list_any p (deeds_of_outgoing outgoing) || b) (any_in p parts)

-- Where no PDU is one, a outgoing has it.
pub any_behind : (p : Deed → Bool) (deeds : List Deed) (parts : List Outgoing) → list_any p deeds ≡ false
    → list_any p (deeds ++ deeds_in parts) ≡ list_any (λ outgoing. list_any p (deeds_of_outgoing outgoing)) parts
any_behind p deeds parts none = list_any-append p deeds (deeds_in parts)
    ∙ ap (λ (b : Bool). b || list_any p (deeds_in parts)) none ∙ any_in p parts
