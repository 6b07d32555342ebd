use Rattle.std.proofs.Common.{◌≡◌}
use Rattle.association_run.specs.inner.Steps.{IsQuiet}
use Rattle.association_run.specs.inner.Steps.{Hearing}
use Rattle.association_run.proofs.StepLaws.{weight}
use Rattle.association_run.proofs.act.hear.Given as goal

-- what was heard and done so far; no row is left
abbrev pub invariant-loop-input : goal.invariant-loop-input
invariant-loop-input g l = record {
  hearing : Hearing g.P.Port.ops g.P.Port.own l.titles.list (g.S.Sided.at l.fn.sides) (g.S.Sided.at l.sides)
      l.fn.session l.fn.event l.pending l.session;
  quiet : IsQuiet l.session.association.awaited;
  write : g.S.Sided.failures l.sides ≡ g.S.Sided.failures l.fn.sides;
  same : g.S.Sided.which l.sides ≡ g.S.Sided.which l.fn.sides;
}

-- Each turn leaves fewer values, or has taken the reply.
abbrev pub decreases-loop-input : goal.decreases-loop-input
decreases-loop-input g l = weight l.session.association.queue l.pending
