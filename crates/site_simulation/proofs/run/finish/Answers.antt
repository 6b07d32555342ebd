use Rattle.std.proofs.Common.{ap, sym, subst, Err}
use Rattle.site_simulation.specs.Simulation.{BreaksOff}
use Rattle.site_simulation.proofs.Told.{front_ended, broke_ended}
use Rattle.site_simulation.proofs.run.finish.Goals as goal

-- Where the write failed a front is printed.
pub returns-in-Err-put_all-clause-end : goal.returns-in-Err-put_all-clause-end
returns-in-Err-put_all-clause-end g c input before rest at owes =
    front_ended input before rest (g.W.Sink.contents c.args.writer.now) (g.W.Sink.contents c.put_all.new.sink)
    c.args.progress.now
    c.finish.new.out.items c.clear.new.self.items c.as_slice.result.now c.in-Err-put_all.ensures.err.0
    c.clear.ensures.items c.as_slice.ensures.value at c.in-Ok.ensures.printed c.in-Err-put_all.ensures.err.1 owes

-- The last line was not done, and nothing was printed of it.
pub returns-in-Err-clause-end : goal.returns-in-Err-clause-end
returns-in-Err-clause-end g c input before rest at owes =
    subst (λ fault. BreaksOff input before fault (g.W.Sink.contents c.args.writer.now)) (sym c.fault_of.ensures)
    (broke_ended input before rest (g.W.Sink.contents c.args.writer.now) c.args.progress.now c.in-Err.fault at
    (λ e. c.in-Err.ensures.short (ap Err e)) (λ e. c.in-Err.ensures.many (ap Err e)) owes)
