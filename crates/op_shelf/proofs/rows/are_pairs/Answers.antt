use Rattle.std.proofs.Common.{◌≤◌, length, take_all, All, subst, arith, rules}
use Rattle.op_shelf.specs.Older.{IsPair}
use Rattle.op_shelf.proofs.Ops.{all_upto}
use Rattle.op_shelf.proofs.rows.are_pairs.Goals as goal

-- This row is that of an operation too.
pub loop-pair-preserved : goal.loop-pair-preserved
loop-pair-preserved c = all_upto IsPair c.args.pairs.now c.loop-pair.pair-index c.pair-item.result c.loop-pair-test.true
    c.pair-item.is c.in_ok-is_pair.ensures.found c.loop-pair.invariant

-- At the end all rows were looked at.
pub returns-clause-all : goal.returns-clause-all
returns-clause-all c =
    let far : length c.args.pairs.now ≤ c.loop-pair.pair-index = search (arith, rules) in
    subst (All IsPair) (take_all c.loop-pair.pair-index c.args.pairs.now far) c.loop-pair.invariant
