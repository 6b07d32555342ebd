use Rattle.std.proofs.Common.{◌<◌, subst, sym, get_or, length, add-one}
use Rattle.std.proofs.Math.Seq.{drop-cons}
use Rattle.site_simulation.specs.Simulation.{StopsWithin, StopsAtLong}
use Rattle.site_simulation.proofs.Told.{long_of, many_of}
use Rattle.site_simulation.proofs.progress.Progress.feed_all.Goals as goal

-- All bytes lead on.
pub returns-clause-within : goal.returns-clause-within
returns-clause-within c = (c.loop-byte.byte-index, c.loop-byte.self, c.loop-byte.invariant)

-- The bytes before the fault led on, and it printed nothing.
pub returns-in-Err-clause-within : goal.returns-in-Err-clause-within
returns-in-Err-clause-within c =
    subst (λ t. StopsWithin c.args.self.now c.args.out.now.items c.args.bytes.now t) (sym c.in-Err.ensures.kept)
    (c.loop-byte.byte-index, c.loop-byte.self, c.loop-byte.invariant)

-- Of a line that is too long nothing is printed.
pub returns-in-Err-clause-long : goal.returns-in-Err-clause-long
returns-in-Err-clause-long c e =
    subst (λ t. StopsAtLong c.args.self.now c.args.out.now.items c.args.bytes.now t) (sym c.in-Err.ensures.kept)
    (long_of c.args.self.now c.loop-byte.self c.args.out.now.items c.loop-byte.out.items c.args.bytes.now
    c.loop-byte.byte-index
    (get_or c.args.bytes.now c.loop-byte.byte-index 0) c.loop-byte.invariant
    (let here : c.loop-byte.byte-index < length c.args.bytes.now = c.loop-byte-test.true in rw (
      add-one,
      drop-cons
          c.args.bytes.now c.loop-byte.byte-index 0,
    ))
    (c.in-Err.ensures.long e))

-- The lines were counted up to the byte.
pub returns-in-Err-clause-many : goal.returns-in-Err-clause-many
returns-in-Err-clause-many c e =
    many_of c.args.self.now c.loop-byte.self c.args.out.now.items c.loop-byte.out.items c.args.bytes.now
    c.loop-byte.byte-index
    (get_or c.args.bytes.now c.loop-byte.byte-index 0) c.loop-byte.invariant
    (let here : c.loop-byte.byte-index < length c.args.bytes.now = c.loop-byte-test.true in rw (
      add-one,
      drop-cons
          c.args.bytes.now c.loop-byte.byte-index 0,
    ))
    (c.in-Err.ensures.many e)
