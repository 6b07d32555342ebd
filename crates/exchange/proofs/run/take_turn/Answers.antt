use Rattle.std.proofs.Common.{inl}
use Rattle.std.proofs.lemmas.Result.{err_from_is_err_and}
use Rattle.exchange.proofs.Runs.{unheard_breaks, refused_breaks, said_on, said_breaks, unheard_refused}
use Rattle.exchange.specs.Tasks.{task_for}
use Rattle.exchange.proofs.run.take_turn.Goals as goal

-- No frame was heard.
pub returns-in_err-frame : goal.returns-in_err-frame
returns-in_err-frame g c =
    let e = err_from_is_err_and c.from_residual.result c.from_residual.ensures.1 in
    record {
      turn = λ role from n so. rw (e.1, e.2) (unheard_breaks g.H.Holder.holds g.H.Holder.alone g.H.Holder.refuses_load role
          from _ _ _ _ _ _ c.args.side.now _ n so _ _ c.in_err-frame.ensures.err c.in_err-frame.ensures.failed);
      refused = rw (e.1, e.2) (λ is. absurd (unheard_refused _ _ _ c.in_err-frame.ensures.err.why is));
    }

-- The frame was refused.
pub returns-in_err-said : goal.returns-in_err-said
returns-in_err-said g c =
    let e = err_from_is_err_and c.from_residual-in_err-said.result c.from_residual-in_err-said.ensures.1 in
    record {
      turn = λ role from n so. rw (e.1, e.2) (refused_breaks g.H.Holder.holds g.H.Holder.alone g.H.Holder.refuses_load role
          from _ _ _ _ _ _ c.args.side.now _ n so _ c.in_ok-frame.frame c.in_ok-frame.ensures.ok _ c.in_ok-frame.ensures.failed _ _
          c.in_err-said.ensures.did c.in_err-said.ensures.why);
      refused = rw (e.1, e.2) (λ is. record {
        before = c.args.holder.now;
        idle = c.in_err-said.ensures.did;
        refused = inl (
          task_for c.args.side.now.awaited c.in_ok-frame.frame c.args.side.now.role,
          c.in_err-said.ensures.refused cc,
        );
      });
    }

-- A front of the answer was written.
pub returns-in_err-unread-clause-turn : goal.returns-in_err-unread-clause-turn
returns-in_err-unread-clause-turn g c =
    let e = err_from_is_err_and c.from_residual-in_err-unread.result c.from_residual-in_err-unread.ensures.1 in
    λ role from n so. rw (e.1, e.2) (said_breaks g.H.Holder.holds g.H.Holder.alone g.H.Holder.refuses_load role from
    _ _ _ _ _ _ c.args.side.now _ n so _ c.in_ok-frame.frame c.in_ok-frame.ensures.ok _ c.in_ok-frame.ensures.failed
    _ _ _ c.in_ok-said.said _ _ c.in_ok-said.ensures.did c.in_ok-said.ensures.kept c.say.ensures.loads _
    c.in_err-unread.ensures.speaks c.in_err-unread.ensures.failed)

-- It was answered.
pub returns-clause-turn : goal.returns-clause-turn
returns-clause-turn g c = λ role from n so. said_on g.H.Holder.holds g.H.Holder.alone g.H.Holder.refuses_load role from
    _ _ _ _ _ _ c.args.side.now _ n so _ c.in_ok-frame.frame c.in_ok-frame.ensures.ok _ c.in_ok-frame.ensures.failed
    _ _ _ c.in_ok-said.said _ _ c.in_ok-said.ensures.did c.in_ok-said.ensures.kept c.say.ensures.loads _ _
    c.pass_over.ensures c.in_ok-unread.ensures.speaks c.in_ok-unread.ensures.failed
