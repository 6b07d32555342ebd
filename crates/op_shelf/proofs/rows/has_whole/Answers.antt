use Rattle.std.proofs.Common.{◌≤◌, length, take_all, All, subst, arith, rules}
use Rattle.op_shelf.specs.Entries.{IsWhole}
use Rattle.op_shelf.proofs.Ops.{all_upto}
use Rattle.op_shelf.proofs.rows.has_whole.Goals as goal

-- This row has them neither.
pub loop-row-preserved : goal.loop-row-preserved
loop-row-preserved c =
    all_upto (λ e. ¬ IsWhole e) c.args.rows.now c.loop-row.row-index c.row-item.result c.loop-row-test.true c.row-item.is
    (λ whole. search (whole, rules)) c.loop-row.invariant

-- At the end all rows were looked at.
pub returns-clause-none : goal.returns-clause-none
returns-clause-none c none =
    let far : length c.args.rows.now ≤ c.loop-row.row-index = search (arith, rules) in
    subst (All (λ e. ¬ IsWhole e)) (take_all c.loop-row.row-index c.args.rows.now far) c.loop-row.invariant
