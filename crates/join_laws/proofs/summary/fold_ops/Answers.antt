use Rattle.std.proofs.Common.{◌∙◌, ap, sym, arith}
use Rattle.std.proofs.lemmas.List.{take_all}
use Rattle.join_laws.specs.Laws.{summary_of}
use Rattle.join_laws.proofs.Folds.{value-take_more, value_same}
use Rattle.join_laws.proofs.summary.fold_ops.Goals as goal

-- What was added is the value of one operation more.
pub loop-op-preserved : goal.loop-op-preserved
loop-op-preserved g c =
    let more = value-take_more g.met.S.Join.laws g.met.S.Summary.summary_laws c.args.list.now c.loop-op.op-index
    c.op-item.result c.loop-op-test.true c.op-item.is in (
      omega arith,
      c.in_ok-add.ensures.ok ∙ ap (λ v. g.S.Join.joined v (g.S.Summary.of_one c.op-item.result))
          c.loop-op.invariant.1 ∙ more,
    )

-- All operations were added.
pub returns-clause-value : goal.returns-clause-value
returns-clause-value g c = c.loop-op.invariant.1
    ∙ ap (summary_of g.S.Join.joined g.S.Summary.nothing g.S.Summary.of_one) (take_all _ _ c.loop-op-test.false)

-- Lists with the same members have one value, since joins are in any order and any number.
pub returns-clause-set_alone : goal.returns-clause-set_alone
returns-clause-set_alone g c = λ other same. returns-clause-value g c
    ∙ sym (value_same g.met.S.Join.laws g.met.S.Summary.summary_laws other c.args.list.now same)
