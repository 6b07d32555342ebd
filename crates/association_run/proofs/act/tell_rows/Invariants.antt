use Rattle.std.proofs.Common.{◌≡◌, ◌≤◌}
use Rattle.association_session.specs.PendingResponse.{left_of}
use Rattle.association_run.specs.inner.Steps.{due, GoesOnWith, Pends}
use Rattle.association_run.proofs.act.tell_rows.Given as goal

-- some rows are told, and sub-operations begun, and nothing else was heard
abbrev pub invariant-loop-session : goal.invariant-loop-session
invariant-loop-session g l = record {
  goes : GoesOnWith g.P.Port.ops g.P.Port.own l.titles.list (g.S.Sided.at l.fn.sides) (g.S.Sided.at l.sides)
      l.fn.session l.fn.pending l.session l.pending;
  pends : Pends l.session.association.awaited l.pending;
  due : due l.pending ≤ due l.fn.pending;
  left : l.session.association.queue ≡ l.fn.session.association.queue;
  write : g.S.Sided.failures l.sides ≡ g.S.Sided.failures l.fn.sides;
  same : g.S.Sided.which l.sides ≡ g.S.Sided.which l.fn.sides;
}

-- Each turn leaves fewer steps.
abbrev pub decreases-loop-session : goal.decreases-loop-session
decreases-loop-session g l = left_of l.session.association.awaited
