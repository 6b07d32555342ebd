use Rattle.std.proofs.Common.{take, ap, sym, subst, Err}
use Rattle.site_simulation.specs.Simulation.{BreaksOff}
use Rattle.site_simulation.proofs.Told.{owes_more, front_more, broke_off, whole_kept}
use Rattle.site_simulation.proofs.run.step.Goals as goal

-- Where the write failed a front of what was read is printed.
pub returns-in-Err-clause-turn : goal.returns-in-Err-clause-turn
returns-in-Err-clause-turn g c input before owes =
    front_more input before (g.R.Source.remaining c.args.reader.now) (g.R.Source.remaining c.read.new.self)
    (g.W.Sink.contents c.args.writer.now) (g.W.Sink.contents c.put_all.new.sink) c.args.progress.now
    (take c.in-Ok.count c.read.new.buffer) c.feed_all-fed.new.out.items c.clear.new.self.items c.as_slice.result.now
    c.in-Err.ensures.err.0
    c.clear.ensures.items c.as_slice.ensures.value c.in-Ok.ensures.bytes.0 c.feed_all-fed.ensures.within
    c.in-Err.ensures.err.1 owes

-- What was read is printed, and the rest is owed.
pub returns-in-Ok-fed-clause-turn : goal.returns-in-Ok-fed-clause-turn
returns-in-Ok-fed-clause-turn g c input before owes =
    owes_more input before (g.R.Source.remaining c.args.reader.now) (g.R.Source.remaining c.read.new.self)
    (g.W.Sink.contents c.args.writer.now) (g.W.Sink.contents c.put_all.new.sink) c.args.progress.now
    c.feed_all-fed.new.self
    (take c.in-Ok.count c.read.new.buffer) c.feed_all-fed.new.out.items c.clear.new.self.items c.as_slice.result.now
    c.clear.ensures.items c.as_slice.ensures.value c.in-Ok.ensures.bytes.0 c.in-Ok-fed.ensures.leads
    c.in_default-put_all.ensures.ok owes

-- The lines before the fault are printed.
pub returns-in-Err-fed-clause-turn : goal.returns-in-Err-fed-clause-turn
returns-in-Err-fed-clause-turn g c input before owes =
    subst (λ fault. BreaksOff input before fault (g.W.Sink.contents c.put_all.new.sink)) (sym c.fault_of.ensures)
    (broke_off input before (g.R.Source.remaining c.args.reader.now) (g.R.Source.remaining c.read.new.self)
    (g.W.Sink.contents c.args.writer.now) (g.W.Sink.contents c.put_all.new.sink) c.args.progress.now
    (take c.in-Ok.count c.read.new.buffer) c.feed_all-fed.new.out.items c.clear.new.self.items c.as_slice.result.now
    c.in-Err-fed.fault
    c.clear.ensures.items c.as_slice.ensures.value c.in-Ok.ensures.bytes.0 c.feed_all-fed.ensures.within
    (λ e. c.in-Err-fed.ensures.long (ap Err e)) (λ e. c.in-Err-fed.ensures.many (ap Err e))
    c.in_default-put_all.ensures.ok owes)

-- A read that failed took no byte: what was printed are whole lines.
pub returns-in_default-clause-turn : goal.returns-in_default-clause-turn
returns-in_default-clause-turn g c input before owes =
    whole_kept input before (g.R.Source.remaining c.args.reader.now) (g.W.Sink.contents c.args.writer.now)
    c.args.progress.now owes
