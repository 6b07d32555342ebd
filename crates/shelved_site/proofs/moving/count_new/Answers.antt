use Rattle.std.proofs.Common.{rules, arith}
use Rattle.shelved_site.proofs.Moves.{count_step, one_few}
use Rattle.shelved_site.proofs.moving.count_new.Goals as goal

-- One put more came.
pub loop-kept-preserved : goal.loop-kept-preserved
loop-kept-preserved c =
    let was = c.loop-kept.invariant in
    record {
      counted = count_step c.args.kepts.now c.loop-kept.kept-index _ c.loop-kept.new c.one_if_new-new.result (search rules) was.counted c.one_if_new-new.ensures;
      few = omega (arith, was.few, one_few _ c.one_if_new-new.result c.one_if_new-new.ensures);
    }
