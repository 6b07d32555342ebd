use Rattle.std.proofs.Common.{◌≡◌}
use Rattle.association_run.specs.inner.Turns.{IsReady, Progress}
use Rattle.association_run.proofs.run.take_turns.Given as goal

-- what was done so far
abbrev pub invariant-loop : goal.invariant-loop
invariant-loop g l = record {
  ready : IsReady l.session l.intake;
  so_far : Progress g.P.Port.ops g.P.Port.own l.titles.list (g.R.Source.remaining l.fn.reader)
      (g.R.Source.remaining l.reader) (g.S.Sided.at l.fn.sides) (g.S.Sided.at l.sides) l.session l.intake l.counter;
  read : g.R.Source.failures l.reader ≡ g.R.Source.failures l.fn.reader;
  write : g.S.Sided.failures l.sides ≡ g.S.Sided.failures l.fn.sides;
  same : g.S.Sided.which l.sides ≡ g.S.Sided.which l.fn.sides;
}
