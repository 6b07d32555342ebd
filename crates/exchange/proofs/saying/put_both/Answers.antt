use Rattle.std.proofs.lemmas.Result.{err_from_is_err_and}
use Rattle.std.proofs.KnownBytes.{Appends-trans}
use Rattle.exchange.proofs.Writings.{on_ok_map, on_err_map, wrote_more, wrote_then}
use Rattle.exchange.proofs.saying.put_both.Goals as goal

-- A front of the first part was written.
pub returns-in_err-put-clause-err : goal.returns-in_err-put-clause-err
returns-in_err-put-clause-err g c =
    let e = err_from_is_err_and c.from_residual.result c.from_residual.ensures.1 in
    rw e.1 (wrote_more _ _ c.args.head.now c.args.rest.now c.in_err-put.ensures.err)

-- Both were.
pub returns-clause-ok : goal.returns-clause-ok
returns-clause-ok g c = on_ok_map c.put-2.result _ _ (λ p. Appends-trans _ _ _ c.args.head.now c.args.rest.now
    c.in_ok-put.ensures.ok p) c.put-2.ensures.ok

-- The first, and a front of the second.
pub returns-clause-err : goal.returns-clause-err
returns-clause-err g c = on_err_map c.put-2.result _ _ (λ p. wrote_then _ _ _ c.args.head.now c.args.rest.now
    c.in_ok-put.ensures.ok p) c.put-2.ensures.err
