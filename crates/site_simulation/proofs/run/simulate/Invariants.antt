use Rattle.std.proofs.Common.{◌≡◌}
use Rattle.site_simulation.specs.Simulation.{Owes, TookBytes}
use Rattle.site_simulation.proofs.run.simulate.Given as goal

-- What the lines read so far print is written; each read took a byte or more, and no device failed.
abbrev pub invariant-loop : goal.invariant-loop
invariant-loop g l = record {
  owes : Owes (g.R.Source.remaining l.fn.reader) (g.W.Sink.contents l.fn.writer) (g.R.Source.remaining l.reader)
      (g.W.Sink.contents l.writer) l.progress;
  took : TookBytes l.counter (g.R.Source.remaining l.fn.reader) (g.R.Source.remaining l.reader);
  read : g.R.Source.failures l.reader ≡ g.R.Source.failures l.fn.reader;
  write : g.W.Sink.failures l.writer ≡ g.W.Sink.failures l.fn.writer;
}
