use Rattle.std.proofs.Common.{Some, None, refl, ◌∙◌, subst}
use Rattle.std.specs.Prelude.{All}
use Rattle.pdu.specs.Spelling.{IsPdu}
use Rattle.association_session.specs.declared.pending_response.PendingResponse.TheVariants as pendings
use Rattle.association_services.specs.declared.loading.Brought.{Brought}
use Rattle.association_services.specs.declared.loading.Brought.TheVariants.{Sent, Unsent}
use Rattle.association_services.specs.Response.{FitsLimit}
use Rattle.association_services.specs.Retrieval.{Brings, pdus_brought}
use Rattle.association_services.specs.SubOperation.{Loading}
use Rattle.association_session.specs.inner.Association.{owing}
use Rattle.association_session.proofs.HearLaws.{ok_map, all_is, at_awaited, at_place, at_stage, at_queue, at_sub}
use Rattle.association_session.proofs.SendLaws.{brought_sent, brought_unsent, state_is}
use Rattle.association_session.proofs.association.Association.take_loaded.Goals as goal

-- What was loaded is sent, and its response is awaited.
pub returns-in-Sent-clause-turned : goal.returns-in-Sent-clause-turned
returns-in-Sent-clause-turned c = λ titles.
    let is : Brings c.args.loading c.args.reply (Sent c.in-Sent.pdus c.in-Sent.sub) =
    subst (λ (b : Brought). Brings c.args.loading c.args.reply b) c.in-Sent.is c.in_ok-pdus.ensures.brought in
    ok_map c.sends.result _ _
    (λ deeds sent. brought_sent titles (owing c.args.self.now (pendings.Load c.args.loading)) _ c.args.loading
    c.args.reply is.0 c.in-Sent.pdus c.in-Sent.sub deeds refl
    (state_is _ c.args.self.now (Some c.in-Sent.sub) None (at_place _ _ c.self.view_is) (at_stage _ _ c.self.view_is)
    (at_queue _ _ c.self.view_is) c.put.ensures (at_awaited _ _ c.self.view_is ∙ c.requires)) sent is.1 is.2 is.3)
    c.sends.ensures

-- Each PDU of it can be written.
pub returns-in-Sent-clause-writable : goal.returns-in-Sent-clause-writable
returns-in-Sent-clause-writable c =
    ok_map c.sends.result _ _ (λ deeds is. all_is deeds c.in-Sent.pdus is
    (subst (λ (b : Brought). All IsPdu (pdus_brought b)) c.in-Sent.is c.in_ok-pdus.ensures.lawful)) c.sends.ensures

-- It failed unsent, and the others are left.
pub returns-in-Unsent-clause-turned : goal.returns-in-Unsent-clause-turned
returns-in-Unsent-clause-turned c = λ titles.
    let is : Brings c.args.loading c.args.reply (Unsent c.in-Unsent.pdus c.in-Unsent.left) =
    subst (λ (b : Brought). Brings c.args.loading c.args.reply b) c.in-Unsent.is c.in_ok-pdus.ensures.brought in
    ok_map c.sends-in-Unsent.result _ _
    (λ deeds sent. brought_unsent titles (owing c.args.self.now (pendings.Load c.args.loading)) _ c.args.loading
    c.args.reply c.in-Unsent.pdus c.in-Unsent.left deeds refl
    (state_is _ c.args.self.now c.args.self.now.sub (Some (pendings.Sending c.in-Unsent.left))
    (at_place _ _ c.owe.ensures) (at_stage _ _ c.owe.ensures) (at_queue _ _ c.owe.ensures) (at_sub _ _ c.owe.ensures)
    (at_awaited _ _ c.owe.ensures)) sent is.0 is.1 is.2
    (subst (λ (l : Loading). FitsLimit l.progress.awaited.limit) c.loading.view_is c.see_room.ensures))
    c.sends-in-Unsent.ensures

-- Each PDU of it can be written.
pub returns-in-Unsent-clause-writable : goal.returns-in-Unsent-clause-writable
returns-in-Unsent-clause-writable c =
    ok_map c.sends-in-Unsent.result _ _ (λ deeds is. all_is deeds c.in-Unsent.pdus is
    (subst (λ (b : Brought). All IsPdu (pdus_brought b)) c.in-Unsent.is c.in_ok-pdus.ensures.lawful))
    c.sends-in-Unsent.ensures
