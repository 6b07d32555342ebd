use Rattle.std.proofs.Common.{sym, subst}
use Rattle.std.specs.Prelude.{IfOk, IsTrue}
use Rattle.association_session.specs.declared.event.SessionEvent.{SessionEvent}
use Rattle.association_session.specs.Session.{Turned, is_in_turn}
use Rattle.association_session.proofs.association.Association.on.Goals as goal

-- The reply is taken, for whatever titles.
pub returns-in-Replied-clause-turned : goal.returns-in-Replied-clause-turned
returns-in-Replied-clause-turned c = λ turn.
    subst (λ (e : SessionEvent). IfOk c.resume.result (λ deeds. Turned c.args.titles.now.list c.args.self.now e deeds
    c.resume.new.self)) (sym c.in-Replied.is) (c.resume.ensures.turned c.args.titles.now.list
    (subst (λ (e : SessionEvent). IsTrue (is_in_turn c.args.self.now e)) c.in-Replied.is turn))
