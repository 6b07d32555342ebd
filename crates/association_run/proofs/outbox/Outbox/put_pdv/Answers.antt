use Rattle.std.proofs.lemmas.Result.{err_from_is_err_and}
use Rattle.pdu.specs.Spelling.{pdv_head}
use Rattle.association_run.proofs.OutboxLaws.{on_ok_map, on_err_map, puts_then, puts_broke, broke_more}
use Rattle.association_run.proofs.outbox.Outbox.put_pdv.Goals as goal

-- Of what stands before the fragment a front was put.
pub returns-in_err-put-clause-err : goal.returns-in_err-put-clause-err
returns-in_err-put-clause-err g c =
    let e = err_from_is_err_and c.from_residual.result c.from_residual.ensures.1 in
    let put = rw c.head_of_pdv.ensures at c.in_err-put.ensures.err in
    rw e.1 (broke_more _ _ c.args.self.now (pdv_head c.args.value.now) c.args.value.now.fragment put)

-- The fragment stands behind its head.
pub returns-clause-ok : goal.returns-clause-ok
returns-clause-ok g c =
    let head = rw c.head_of_pdv.ensures at c.in_ok-put.ensures.ok in
    let fragment = rw c.as_slice.ensures at c.put-2.ensures.ok in
    on_ok_map c.put-2.result _ _ (λ p. puts_then _ _ _ c.args.self.now c.put.new.self c.put-2.new.self
    (pdv_head c.args.value.now) c.args.value.now.fragment head p) fragment

-- Of the fragment a front was put.
pub returns-clause-err : goal.returns-clause-err
returns-clause-err g c =
    let head = rw c.head_of_pdv.ensures at c.in_ok-put.ensures.ok in
    let fragment = rw c.as_slice.ensures at c.put-2.ensures.err in
    on_err_map c.put-2.result _ _ (λ p. puts_broke _ _ _ c.args.self.now c.put.new.self (pdv_head c.args.value.now)
    c.args.value.now.fragment head p) fragment
