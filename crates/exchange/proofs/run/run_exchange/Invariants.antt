use Rattle.exchange.specs.Run.{ends, Progress}
use Rattle.exchange.proofs.run.run_exchange.Given as goal

-- what was heard and said so far
abbrev pub invariant-loop : goal.invariant-loop
invariant-loop g l = Progress g.H.Holder.holds g.H.Holder.alone g.H.Holder.refuses_load l.fn.role
    (ends l.fn.holder (g.R.Source.remaining l.fn.reader) (g.W.Sink.contents l.fn.writer)
    (g.R.Source.failures l.fn.reader) (g.W.Sink.failures l.fn.writer))
    (ends l.holder (g.R.Source.remaining l.reader) (g.W.Sink.contents l.writer) (g.R.Source.failures l.reader)
    (g.W.Sink.failures l.writer)) l.side l.reads l.counter
