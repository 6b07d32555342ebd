use Rattle.std.proofs.lemmas.Result.{err_from_is_err_and}
use Rattle.exchange.proofs.Refusals.{refused_is, memory_is}
use Rattle.exchange.proofs.round.Round.on_give.Goals as goal

-- What the holder refused is told as that,
pub returns-in_err-taken-clause-refused : goal.returns-in_err-taken-clause-refused
returns-in_err-taken-clause-refused g c = let p = err_from_is_err_and c.from_residual.result c.from_residual.ensures.1 in
    rw (p.1, p.2) (rw (← c.of-op.ensures) (refused_is (g.H.Holder.refuses_take _ _ c.of-op.result) _
    c.in_err-taken.ensures.why))

-- and so is its want of memory.
pub returns-in_err-taken-clause-memory : goal.returns-in_err-taken-clause-memory
returns-in_err-taken-clause-memory g c = let p = err_from_is_err_and c.from_residual.result c.from_residual.ensures.1 in
    rw (p.1, p.2) (rw (← c.of-op.ensures) (memory_is (g.H.Holder.refuses_take _ _ c.of-op.result) _
    c.in_err-taken.ensures.why))
