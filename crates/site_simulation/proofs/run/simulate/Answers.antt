use Rattle.std.proofs.Common.{◌≡◌, rules, arith}
use Rattle.site_simulation.specs.Simulation.{IsEndless}
use Rattle.site_simulation.proofs.Told.{whole_kept, ends_broken}
use Rattle.site_simulation.proofs.run.simulate.Goals as goal

-- At the end all was written, or the end broke it off.
pub returns-in-Ok-eq0-clause-broken : goal.returns-in-Ok-eq0-clause-broken
returns-in-Ok-eq0-clause-broken g c =
    let input = g.R.Source.remaining c.args.reader.now in
    let before = g.W.Sink.contents c.args.writer.now in
    let at_end : c.in-Ok-eq0.field-0 ≡ 0 = first_of (cc, omega arith, search rules) in
    ends_broken input before (g.W.Sink.contents c.finish.new.writer) c.finish.result
    (c.finish.ensures.end input before (g.R.Source.remaining c.step.new.reader) (c.in-Ok-eq0.ensures.end at_end)
    (c.in-Ok-eq0.ensures.turn input before c.loop.invariant.owes))

-- A step broke it off.
pub returns-in-Err-clause-broken : goal.returns-in-Err-clause-broken
returns-in-Err-clause-broken g c =
    c.in-Err.ensures.turn (g.R.Source.remaining c.args.reader.now) (g.W.Sink.contents c.args.writer.now)
    c.loop.invariant.owes

-- The input did not end: what was printed are whole lines.
pub returns-clause-broken : goal.returns-clause-broken
returns-clause-broken g c =
    let input = g.R.Source.remaining c.args.reader.now in
    let endless : IsEndless input = search rules in (
      whole_kept input (g.W.Sink.contents c.args.writer.now) (g.R.Source.remaining c.loop.reader)
          (g.W.Sink.contents c.loop.writer) c.loop.progress c.loop.invariant.owes,
      endless,
    )
