use Rattle.std.proofs.Common.{◌≡◌, ◌≤◌, length, take_all, All, subst, arith, rules}
use Rattle.op_shelf.specs.Entries.{entry_by}
use Rattle.op_shelf.proofs.Ops.{all_upto}
use Rattle.op_shelf.proofs.rows.are_entry.Goals as goal

-- This row is the entry too.
pub loop-row-preserved : goal.loop-row-preserved
loop-row-preserved c =
    let entry = entry_by c.args.digest.now c.args.body.now in
    let is : c.row-item.result ≡ entry = search rules in
    all_upto (λ e. e ≡ entry) c.args.rows.now c.loop-row.row-index c.row-item.result c.loop-row-test.true c.row-item.is
    is c.loop-row.invariant

-- At the end all rows were looked at.
pub returns-clause-all : goal.returns-clause-all
returns-clause-all c all =
    let entry = entry_by c.args.digest.now c.args.body.now in
    let far : length c.args.rows.now ≤ c.loop-row.row-index = search (arith, rules) in
    subst (All (λ e. e ≡ entry)) (take_all c.loop-row.row-index c.args.rows.now far) c.loop-row.invariant
