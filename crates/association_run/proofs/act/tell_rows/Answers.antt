use Rattle.std.proofs.Common.{◌∙◌, refl, sym, arith}
use Rattle.std.proofs.lemmas.Result.{err_from_is_err_and}
use Rattle.association_session.specs.Session.{is_left}
use Rattle.association_run.specs.inner.Steps.{row_input}
use Rattle.association_run.proofs.StepLaws.{tells_on, tells_broke, rows_fewer, quiet_of, told_in_turn, none_due}
use Rattle.association_run.proofs.StepLaws.{pends_behind}
use Rattle.association_run.proofs.act.tell_rows.Goals as goal

-- Rows are told in their turn, and what was loaded.
pub tell-requires-clause-turn : goal.tell-requires-clause-turn
tell-requires-clause-turn g c =
    rw c.row_input.ensures (told_in_turn c.loop-session.session.association.awaited
    (is_left c.loop-session.session.association.within.state c.loop-session.session.association.queue)
    c.loop-session.pending c.loop-session.invariant.pends (sym c.tells_on.ensures ∙ c.loop-session-test.true))

-- Nothing was told yet.
pub loop-session-init : goal.loop-session-init
loop-session-init g c = record {
  goes = λ old from event h. h;
  pends = c.requires;
  due = omega arith;
  left = refl;
  write = refl;
  same = refl;
}

-- Of the deeds for some rows a front was done.
pub returns-in_err-pending-clause-err : goal.returns-in_err-pending-clause-err
returns-in_err-pending-clause-err g c =
    let e = err_from_is_err_and c.from_residual.result c.from_residual.ensures.1 in
    rw e.1 (tells_broke g.P.Port.ops g.P.Port.own c.args.titles.now.list _ _ _ c.args.session.now c.loop-session.session
    c.args.pending c.loop-session.pending c.loop-session.invariant.goes (sym c.tells_on.ensures
    ∙ c.loop-session-test.true) (rw c.row_input.ensures at c.in_err-pending.ensures.err))

-- Some rows more are told.
pub loop-session-preserved : goal.loop-session-preserved
loop-session-preserved g c =
    let telling = sym c.tells_on.ensures ∙ c.loop-session-test.true in
    let at = c.loop-session.pending in
    let turn = rw c.row_input.ensures at c.in_ok-pending.ensures.ok in
    let none = none_due g.P.Port.ops g.P.Port.own c.args.titles.now.list _ _ c.loop-session.session at
    c.in_ok-pending.pending c.tell.new.session c.loop-session.invariant.pends telling turn in
    record {
      goes = tells_on g.P.Port.ops g.P.Port.own c.args.titles.now.list _ _ _ c.args.session.now c.loop-session.session
          c.args.pending at c.in_ok-pending.pending c.tell.new.session c.loop-session.invariant.goes telling turn;
      pends = pends_behind g.P.Port.ops g.P.Port.own c.args.titles.now.list _ _ c.loop-session.session (row_input at)
          c.in_ok-pending.pending c.tell.new.session turn;
      due = omega (arith, none);
      left = (rows_fewer at _ _ c.loop-session.invariant.pends telling turn.fewer).0 ∙ c.loop-session.invariant.left;
      write = c.in_ok-pending.ensures.write ∙ c.loop-session.invariant.write;
      same = c.in_ok-pending.ensures.same ∙ c.loop-session.invariant.same;
    }

-- The steps that are left become fewer.
pub loop-session-smaller : goal.loop-session-smaller
loop-session-smaller g c =
    let turn = rw c.row_input.ensures at c.in_ok-pending.ensures.ok in
    (rows_fewer c.loop-session.pending _ _ c.loop-session.invariant.pends (sym c.tells_on.ensures
    ∙ c.loop-session-test.true) turn.fewer).1

-- No row is left.
pub returns-clause-quiet : goal.returns-clause-quiet
returns-clause-quiet g c = quiet_of _ c.loop-session.pending c.loop-session.invariant.pends (sym c.tells_on.ensures
    ∙ c.loop-session-test.false)
