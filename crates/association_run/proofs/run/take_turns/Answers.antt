use Rattle.std.proofs.Common.{refl}
use Rattle.association_run.proofs.Fronts.{nothing_read}
use Rattle.association_run.proofs.TurnLaws.{nothing_yet, stopped, starts_ready}
use Rattle.association_run.proofs.run.take_turns.Goals as goal

-- Nothing was read and nothing was done yet.
pub loop-init : goal.loop-init
loop-init g c = record {
  ready = rw c.requires.intake (starts_ready c.args.session.now c.requires.association);
  so_far = rw c.requires.intake (nothing_yet g.P.Port.ops g.P.Port.own c.args.titles.now.list
      (g.R.Source.remaining c.args.reader.now) (g.S.Sided.at c.args.sides.now) c.args.session.now
      c.requires.association c.requires.aborted
      c.requires.released);
  read = refl;
  write = refl;
  same = refl;
}

-- The turn ended the run.
pub returns-in-Ok-Some-clause-ok : goal.returns-in-Ok-Some-clause-ok
returns-in-Ok-Some-clause-ok g c =
    let h = c.in-Ok-Some.ensures.turns (g.R.Source.remaining c.args.reader.now) (g.S.Sided.at c.args.sides.now)
    c.loop.counter
    c.loop.invariant.so_far in
    rw c.in-Ok-Some.field-0-is at h

-- The turn broke it off.
pub returns-in-Err-clause-err : goal.returns-in-Err-clause-err
returns-in-Err-clause-err g c = c.in-Err.ensures.turns _ _ _ c.loop.invariant.so_far

-- Too many reads.
pub returns-clause-err : goal.returns-clause-err
returns-clause-err g c = stopped g.P.Port.ops g.P.Port.own c.args.titles.now.list _ _ _ _ _ c.loop.session
    c.loop.intake _ c.loop.invariant.so_far (nothing_read _)
