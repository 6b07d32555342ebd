use Rattle.std.proofs.Common.{◌≡◌, ◌∙◌, Option, Some, sym, ap, subst}
use Rattle.std.specs.Prelude.{IfOk}
use Rattle.association_services.specs.declared.reply.Reply.{Reply}
use Rattle.association_services.specs.declared.reply.Reply.TheVariants.{Loaded}
use Rattle.association_session.specs.declared.event.SessionEvent.TheVariants.{Replied}
use Rattle.association_session.specs.declared.pending_response.PendingResponse.{PendingResponse}
use Rattle.association_session.specs.declared.pending_response.PendingResponse.TheVariants as pendings
use Rattle.association_session.specs.inner.Association.{state_of, settled_of}
use Rattle.association_session.specs.Session.{AssociationState, Turned}
use Rattle.association_session.proofs.association.Association.take.Goals as goal

-- What was awaited is the content of the sub-operation that is begun.
pub returns-in-Some-Load-Loaded-clause-turned : goal.returns-in-Some-Load-Loaded-clause-turned
returns-in-Some-Load-Loaded-clause-turned c = λ titles.
    let holding : Option PendingResponse → AssociationState = λ o. record {
      within = record {
        state = state_of c.self.inside.acceptor;
        settled = settled_of c.self.inside.acceptor;
        link = c.self.inside.link.link;
      };
      sub = c.self.inside.sub;
      stage = c.self.inside.link.stage;
      awaited = o;
      queue = c.self.inside.queue.items;
    } in
    let awaited : Option PendingResponse = Some (pendings.Load c.in-Some-Load-Loaded.loading) in
    let has : c.self.inside.awaited ≡ awaited =
    cc (c.take.ensures.value, c.in-Some-Load-Loaded.ensures.value, c.in-Some-Load-Loaded.loading-is) in
    let said : c.args.reply ≡ Loaded c.in-Some-Load-Loaded.reply = cc c.in-Some-Load-Loaded.is-1 in
    subst (λ (s : AssociationState). IfOk c.take_loaded.result (λ deeds. Turned titles s (Replied c.args.reply) deeds
    c.take_loaded.new.self)) (ap holding (sym has) ∙ c.self.view_is)
    (subst (λ (r : Reply). IfOk c.take_loaded.result (λ deeds. Turned titles (holding awaited) (Replied r) deeds
    c.take_loaded.new.self)) (sym said) (c.take_loaded.ensures.turned titles))
