use Rattle.std.proofs.Common.{[], refl}
use Rattle.std.proofs.lemmas.Result.{err_from_is_err_and}
use Rattle.association_run.proofs.OutboxLaws.{on_ok_map, on_err_map, puts_broke, broke_more, flushed_puts, written_puts}
use Rattle.association_run.proofs.outbox.Outbox.put.Goals as goal

-- A front of what was held was written.
pub returns-in_err-flush-clause-err : goal.returns-in_err-flush-clause-err
returns-in_err-flush-clause-err g c =
    let e = err_from_is_err_and c.from_residual-in_err-flush.result c.from_residual-in_err-flush.ensures.1 in
    rw e.1 (broke_more _ _ c.args.self.now [] c.args.bytes.now c.in_err-flush.ensures.err)

-- All that was held was written, and the bytes behind it.
pub returns-clause-ok : goal.returns-clause-ok
returns-clause-ok g c = on_ok_map c.write.result _ _ (λ p. written_puts _ _ _ c.args.self.now c.flush.new.self
    c.args.bytes.now c.in_ok-flush.ensures.empty c.in_ok-flush.ensures.ok p) c.write.ensures.ok

-- All that was held was written, and a front of the bytes behind it.
pub returns-clause-err : goal.returns-clause-err
returns-clause-err g c = on_err_map c.write.result _ _ (λ p. puts_broke _ _ _ c.args.self.now [] [] c.args.bytes.now
    (flushed_puts _ _ c.args.self.now [] refl c.in_ok-flush.ensures.ok) p) c.write.ensures.err
