use Rattle.std.proofs.Common.{◌∙◌}
use Rattle.std.proofs.lemmas.Result.{err_from_is_err_and}
use Rattle.association_run.proofs.StepLaws.{begun, goes_on, ended, fails_first, fails_on, falls, pends_behind}
use Rattle.association_run.proofs.StepLaws.{no_heavier}
use Rattle.association_run.proofs.act.hear.Goals as goal

-- The reply that is to be told is that which is awaited.
pub tell_rows-requires : goal.tell_rows-requires
tell_rows-requires g c = pends_behind g.P.Port.ops g.P.Port.own c.args.titles.now.list _ _ c.args.session.now _
    c.in_ok-first.first c.tell.new.session c.in_ok-first.ensures.ok

-- Of the event's own deeds a front was done.
pub returns-in_err-first-clause-err : goal.returns-in_err-first-clause-err
returns-in_err-first-clause-err g c =
    let e = err_from_is_err_and c.from_residual.result c.from_residual.ensures.1 in
    rw e.1 (fails_first g.P.Port.ops g.P.Port.own c.args.titles.now.list _ _ c.args.session.now c.args.event
    c.requires.idle c.in_err-first.ensures.err)

-- Of the deeds for the rows behind it a front was done.
pub returns-in_err-pending-clause-err : goal.returns-in_err-pending-clause-err
returns-in_err-pending-clause-err g c =
    let e = err_from_is_err_and c.from_residual-in_err-pending.result c.from_residual-in_err-pending.ensures.1 in
    rw e.1 (c.in_err-pending.ensures.err _ c.args.session.now c.args.event
    (begun g.P.Port.ops g.P.Port.own c.args.titles.now.list _ _ c.args.session.now c.args.event c.in_ok-first.first
    c.tell.new.session c.requires.idle c.requires.finished c.requires.connected c.in_ok-first.ensures.ok))

-- The event's own deeds are done.
pub loop-input-init : goal.loop-input-init
loop-input-init g c = record {
  hearing = c.in_ok-pending.ensures.ok _ c.args.session.now c.args.event
      (begun g.P.Port.ops g.P.Port.own c.args.titles.now.list _ _ c.args.session.now c.args.event
      c.in_ok-first.first c.tell.new.session c.requires.idle c.requires.finished c.requires.connected
      c.in_ok-first.ensures.ok);
  quiet = c.in_ok-pending.ensures.quiet;
  write = c.in_ok-pending.ensures.write ∙ c.in_ok-first.ensures.write;
  same = c.in_ok-pending.ensures.same ∙ c.in_ok-first.ensures.same;
}

-- Of the deeds for what came next a front was done.
pub returns-in_err-replied-clause-err : goal.returns-in_err-replied-clause-err
returns-in_err-replied-clause-err g c =
    let e = err_from_is_err_and c.from_residual-in_err-replied.result c.from_residual-in_err-replied.ensures.1 in
    let next = rw c.in-Some.is at c.next.ensures in
    rw e.1 (fails_on g.P.Port.ops g.P.Port.own c.args.titles.now.list _ _ _ c.args.session.now c.args.event
    c.loop-input.pending c.loop-input.session c.in-Some.input c.loop-input.invariant.hearing next
    c.in_err-replied.ensures.err)

-- The reply that is to be told is that which is awaited.
pub tell_rows-requires-in-Some : goal.tell_rows-requires-in-Some
tell_rows-requires-in-Some g c = pends_behind g.P.Port.ops g.P.Port.own c.args.titles.now.list _ _
    c.loop-input.session c.in-Some.input c.in_ok-replied.replied c.tell-in-Some.new.session c.in_ok-replied.ensures.ok

-- Of the deeds for the rows a front was done.
pub returns-in_err-pending-2-clause-err : goal.returns-in_err-pending-2-clause-err
returns-in_err-pending-2-clause-err g c =
    let e = err_from_is_err_and c.from_residual-in_err-pending-2.result c.from_residual-in_err-pending-2.ensures.1 in
    let next = rw c.in-Some.is at c.next.ensures in
    rw e.1 (c.in_err-pending-2.ensures.err _ c.args.session.now c.args.event
    (goes_on g.P.Port.ops g.P.Port.own c.args.titles.now.list _ _ _ c.args.session.now c.args.event c.loop-input.pending
    c.loop-input.session c.in-Some.input c.in_ok-replied.replied c.tell-in-Some.new.session
    c.loop-input.invariant.hearing next c.in_ok-replied.ensures.ok))

-- A reply was told, or values were heard on; the rows leave the values.
pub loop-input-smaller : goal.loop-input-smaller
loop-input-smaller g c =
    let next = rw c.in-Some.is at c.next.ensures in
    no_heavier _ _ c.in_ok-replied.replied c.in_ok-pending-2.pending _ c.in_ok-pending-2.ensures.left
    c.in_ok-pending-2.ensures.due
    (falls g.P.Port.ops g.P.Port.own c.args.titles.now.list _ _ _ c.args.session.now c.args.event c.loop-input.pending
    c.loop-input.session c.in-Some.input c.in_ok-replied.replied c.tell-in-Some.new.session
    c.loop-input.invariant.hearing c.loop-input.invariant.quiet next c.in_ok-replied.ensures.ok)

-- The deeds for what came next are done, and for its rows.
pub loop-input-preserved : goal.loop-input-preserved
loop-input-preserved g c =
    let next = rw c.in-Some.is at c.next.ensures in
    record {
      hearing = c.in_ok-pending-2.ensures.ok _ c.args.session.now c.args.event
          (goes_on g.P.Port.ops g.P.Port.own c.args.titles.now.list _ _ _ c.args.session.now c.args.event
          c.loop-input.pending c.loop-input.session c.in-Some.input c.in_ok-replied.replied
          c.tell-in-Some.new.session c.loop-input.invariant.hearing next c.in_ok-replied.ensures.ok);
      quiet = c.in_ok-pending-2.ensures.quiet;
      write = c.in_ok-pending-2.ensures.write ∙ c.in_ok-replied.ensures.write ∙ c.loop-input.invariant.write;
      same = c.in_ok-pending-2.ensures.same ∙ c.in_ok-replied.ensures.same ∙ c.loop-input.invariant.same;
    }

-- Nothing more comes of the event.
pub returns-clause-ok : goal.returns-clause-ok
returns-clause-ok g c =
    let next = rw c.in_default.is at c.next.ensures in
    ended g.P.Port.ops g.P.Port.own c.args.titles.now.list _ _ c.args.session.now c.args.event c.loop-input.pending
    c.loop-input.session c.loop-input.invariant.hearing next
