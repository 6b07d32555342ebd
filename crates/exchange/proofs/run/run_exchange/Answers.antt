use Rattle.std.proofs.Common.{arith}
use Rattle.exchange.proofs.Runs.{ended, endless}
use Rattle.exchange.proofs.run.run_exchange.Goals as goal

-- Nothing is awaited any more.
pub returns-then-is_over-clause-ok : goal.returns-then-is_over-clause-ok
returns-then-is_over-clause-ok g c = ended g.H.Holder.holds g.H.Holder.alone g.H.Holder.refuses_load c.args.role _ _
    c.loop.side c.loop.reads c.loop.counter _ c.loop.invariant (c.is_over.ensures.0 c.if-is_over.true) c.ended.ensures.given
    c.ended.ensures.unread c.ended.ensures.taken c.ended.ensures.finished c.ended.ensures.agreed c.ended.ensures.whole

-- Each of so many turns read a byte or more.
pub returns-clause-err : goal.returns-clause-err
returns-clause-err g c = endless g.H.Holder.holds g.H.Holder.alone g.H.Holder.refuses_load c.args.role _ _
    c.loop.side c.loop.reads c.loop.counter (omega (arith, c.loop-test.false)) c.loop.invariant

-- A turn broke it off.
pub returns-in-Err-take_turn-clause-err : goal.returns-in-Err-take_turn-clause-err
returns-in-Err-take_turn-clause-err g c = c.in-Err-take_turn.ensures.turn c.args.role _ _ c.loop.invariant
