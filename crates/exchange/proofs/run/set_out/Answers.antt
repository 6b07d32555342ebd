use Rattle.std.proofs.Common.{inl, refl, ap, ◌∙◌}
use Rattle.std.proofs.KnownBytes.{Appends-nil, Consumes-nil}
use Rattle.exchange.proofs.Runs.{set_out_ok, set_out_err}
use Rattle.std.proofs.lemmas.Result.{err_from_is_err_and}
use Rattle.exchange.specs.declared.side.Side.{Side}
use Rattle.exchange.specs.declared.task.Task.TheVariants as tasks
use Rattle.exchange.proofs.run.set_out.Goals as goal

-- The first words were said.
pub returns-clause-ok : goal.returns-clause-ok
returns-clause-ok g c = set_out_ok g.H.Holder.holds g.H.Holder.alone g.H.Holder.refuses_load c.args.side.now.role _ _ _
    c.in_ok-said.said _ _ _ _ _ c.in_ok-said.ensures.did
    (c.in_ok-said.ensures.kept ∙ ap (λ (x : Side). x.unread) c.requires) c.say.ensures.loads _ _ c.pass_over.ensures
    c.in_ok-unread.ensures.speaks c.in_ok-unread.ensures.failed

-- A front of them was.
pub returns-in_err-unread-clause-err : goal.returns-in_err-unread-clause-err
returns-in_err-unread-clause-err g c =
    let e = err_from_is_err_and c.from_residual-in_err-unread.result c.from_residual-in_err-unread.ensures.1 in
    rw (e.1, e.2) (set_out_err g.H.Holder.holds g.H.Holder.alone g.H.Holder.refuses_load c.args.side.now.role _ _ _
    c.in_ok-said.said _ _ _ _ _ c.in_ok-said.ensures.did
    (c.in_ok-said.ensures.kept ∙ ap (λ (x : Side). x.unread) c.requires) c.say.ensures.loads _
    c.in_err-unread.ensures.speaks c.in_err-unread.ensures.failed)

-- The holder refused to tell its buckets.
pub returns-in_err-said-clause-refused : goal.returns-in_err-said-clause-refused
returns-in_err-said-clause-refused g c =
    let e = err_from_is_err_and c.from_residual.result c.from_residual.ensures.1 in
    rw (e.1, e.2) (λ is. record {
      before = c.args.holder.now;
      idle = c.in_err-said.ensures.did;
      refused = inl (tasks.Show, c.in_err-said.ensures.refused cc);
    })

-- Nothing was said then.
pub returns-in_err-said-clause-err : goal.returns-in_err-said-clause-err
returns-in_err-said-clause-err g c =
    let e = err_from_is_err_and c.from_residual.result c.from_residual.ensures.1 in
    rw (e.1, e.2) (λ left failed. inl (record {
      idle = c.in_err-said.ensures.did;
      read = Consumes-nil left;
      wrote = Appends-nil (g.W.Sink.contents c.args.writer.now);
      why = c.in_err-said.ensures.why;
      failed = (refl, refl);
    }))
