use Rattle.std.proofs.Common.{◌≡◌, None, ◌∙◌, sym, subst}
use Rattle.association_session.specs.inner.Association.{pending_of}
use Rattle.association_services.specs.Response.{FitsLimit}
use Rattle.association_services.specs.SubOperation.{SubOperation}
use Rattle.association_services.specs.Retrieval.{performed, RespondsBy}
use Rattle.association_session.proofs.HearLaws.{ok_map, all_is, at_place, at_stage, at_queue, at_sub}
use Rattle.association_session.proofs.SendLaws.{attended_performed, same_sub, state_is}
use Rattle.association_session.proofs.association.Association.attend.Goals as goal

-- The response is told, and what is left goes on.
pub returns-in_ok-pdus-in-Performed-clause-answered : goal.returns-in_ok-pdus-in-Performed-clause-answered
returns-in_ok-pdus-in-Performed-clause-answered c =
    let same : c.in-Some-take.sub ≡ c.in-Some.sub =
    same_sub c.take.result _ _ c.in-Some-take.is (c.take.ensures.value ∙ c.in-Some.is) in
    ok_map c.sends.result _ _
    (λ deeds sent. attended_performed c.args.titles.now.list c.args.self.now _ c.args.message c.in-Some.sub
    c.in-Performed.outcome c.in_ok-pdus-in-Performed.pdus c.in_ok-pdus-in-Performed.next deeds c.requires.established
    c.requires.idle (sym (at_sub _ _ c.self.view_is) ∙ c.in-Some.is)
    (sym c.meaning-meaning.ensures ∙ c.in-Performed.is)
    (state_is _ c.args.self.now None (pending_of c.in_ok-pdus-in-Performed.next) (at_place _ _ c.self.view_is)
    (at_stage _ _ c.self.view_is) (at_queue _ _ c.self.view_is) c.take.ensures.after c.leave.ensures) sent
    (subst (λ (s : SubOperation). RespondsBy s.cancelled (performed s c.in-Performed.outcome) s.left
    c.in_ok-pdus-in-Performed.pdus c.in_ok-pdus-in-Performed.next) same c.in_ok-pdus-in-Performed.ensures.told)
    (subst (λ (s : SubOperation). FitsLimit s.progress.awaited.limit) c.sub.view_is c.see_room.ensures))
    c.sends.ensures

-- Each PDU of a response can be written.
pub returns-in_ok-pdus-in-Performed-clause-writable : goal.returns-in_ok-pdus-in-Performed-clause-writable
returns-in_ok-pdus-in-Performed-clause-writable c =
    ok_map c.sends.result _ _ (λ deeds is. all_is deeds c.in_ok-pdus-in-Performed.pdus is
    c.in_ok-pdus-in-Performed.ensures.lawful) c.sends.ensures
