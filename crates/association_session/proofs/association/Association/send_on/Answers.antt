use Rattle.std.proofs.Common.{Some, None, refl, ◌∙◌, subst}
use Rattle.std.specs.Prelude.{All}
use Rattle.pdu.specs.Spelling.{IsPdu}
use Rattle.association_session.specs.declared.pending_response.PendingResponse.TheVariants as pendings
use Rattle.association_services.specs.declared.retrieval.Begun.{Begun}
use Rattle.association_services.specs.declared.retrieval.Begun.TheVariants.{Ended, Loads, Unsent}
use Rattle.association_services.specs.Response.{FitsLimit}
use Rattle.association_services.specs.Retrieval.{Begins, pdus_begun}
use Rattle.association_services.specs.SubOperation.{Retrieval}
use Rattle.association_session.specs.inner.Association.{owing}
use Rattle.association_session.proofs.HearLaws.{ok_map, all_is, at_awaited, at_place, at_stage, at_queue, at_sub}
use Rattle.association_session.proofs.HearLaws.{at_contexts}
use Rattle.association_session.proofs.SendLaws.{ended_turn, loads_turn, unsent_turn, state_is}
use Rattle.association_session.proofs.association.Association.send_on.Goals as goal

-- Nothing was left: the last response is sent.
pub returns-in-Ended-clause-turned : goal.returns-in-Ended-clause-turned
returns-in-Ended-clause-turned c = λ titles.
    let is : Begins c.contexts.result.now c.args.retrieval (Ended c.in-Ended.pdus) =
    subst (λ (b : Begun). Begins c.contexts.result.now c.args.retrieval b) c.in-Ended.is
    c.in_ok-pdus.ensures.begun in
    ok_map c.sends.result _ _
    (λ deeds sent. ended_turn titles (owing c.args.self.now (pendings.Sending c.args.retrieval)) _ c.args.retrieval
    c.in-Ended.pdus deeds refl
    (state_is _ c.args.self.now None None (at_place _ _ c.self.view_is) (at_stage _ _ c.self.view_is)
    (at_queue _ _ c.self.view_is)
    c.put.ensures (at_awaited _ _ c.self.view_is ∙ c.requires)) sent is.0 is.1)
    c.sends.ensures

-- Each PDU of it can be written.
pub returns-in-Ended-clause-writable : goal.returns-in-Ended-clause-writable
returns-in-Ended-clause-writable c =
    ok_map c.sends.result _ _ (λ deeds is. all_is deeds c.in-Ended.pdus is
    (subst (λ (b : Begun). All IsPdu (pdus_begun b)) c.in-Ended.is c.in_ok-pdus.ensures.lawful)) c.sends.ensures

-- The next has a way: the port is asked to load its content.
pub returns-in-Loads-clause-turned : goal.returns-in-Loads-clause-turned
returns-in-Loads-clause-turned c = λ titles.
    let is : Begins c.contexts.result.now c.args.retrieval (Loads c.in-Loads.asked c.in-Loads.loading) =
    subst (λ (b : Begun). Begins c.contexts.result.now c.args.retrieval b) c.in-Loads.is
    c.in_ok-pdus.ensures.begun in
    ok_map c.one.result _ _
    (λ deeds asks. loads_turn titles (owing c.args.self.now (pendings.Sending c.args.retrieval)) _ c.args.retrieval
    c.contexts.result.now
    is.0 is.1 is.2 c.in-Loads.asked c.in-Loads.loading deeds refl
    (state_is _ c.args.self.now c.args.self.now.sub (Some (pendings.Load c.in-Loads.loading))
    (at_place _ _ c.owe.ensures) (at_stage _ _ c.owe.ensures) (at_queue _ _ c.owe.ensures) (at_sub _ _ c.owe.ensures)
    (at_awaited _ _ c.owe.ensures)) asks (c.contexts.ensures ∙ at_contexts _ _ c.self.view_is)
    is.3 is.4 is.5 is.6
    (subst (λ (r : Retrieval). FitsLimit r.progress.awaited.limit) c.retrieval.view_is c.see_room.ensures))
    c.one.ensures

-- One failed unsent, and the others are left.
pub returns-in-Unsent-clause-turned : goal.returns-in-Unsent-clause-turned
returns-in-Unsent-clause-turned c = λ titles.
    let is : Begins c.contexts.result.now c.args.retrieval (Unsent c.in-Unsent.pdus c.in-Unsent.retrieval) =
    subst (λ (b : Begun). Begins c.contexts.result.now c.args.retrieval b) c.in-Unsent.is
    c.in_ok-pdus.ensures.begun in
    ok_map c.sends-in-Unsent.result _ _
    (λ deeds sent. unsent_turn titles (owing c.args.self.now (pendings.Sending c.args.retrieval)) _ c.args.retrieval
    c.contexts.result.now
    is.0 is.1 c.in-Unsent.pdus c.in-Unsent.retrieval deeds refl
    (state_is _ c.args.self.now c.args.self.now.sub (Some (pendings.Sending c.in-Unsent.retrieval))
    (at_place _ _ c.owe-in-Unsent.ensures)
    (at_stage _ _ c.owe-in-Unsent.ensures)
    (at_queue _ _ c.owe-in-Unsent.ensures) (at_sub _ _ c.owe-in-Unsent.ensures)
    (at_awaited _ _ c.owe-in-Unsent.ensures)) sent (c.contexts.ensures ∙ at_contexts _ _ c.self.view_is) is.2 is.3 is.4
    is.5
    (subst (λ (r : Retrieval). FitsLimit r.progress.awaited.limit) c.retrieval.view_is c.see_room.ensures))
    c.sends-in-Unsent.ensures

-- Each PDU of it can be written.
pub returns-in-Unsent-clause-writable : goal.returns-in-Unsent-clause-writable
returns-in-Unsent-clause-writable c =
    ok_map c.sends-in-Unsent.result _ _ (λ deeds is. all_is deeds c.in-Unsent.pdus is
    (subst (λ (b : Begun). All IsPdu (pdus_begun b)) c.in-Unsent.is c.in_ok-pdus.ensures.lawful))
    c.sends-in-Unsent.ensures
