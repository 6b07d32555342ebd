use Rattle.std.proofs.Common.{◌∙◌, ap, sym, arith, take, cond, false, not, ◌&&◌}
use Rattle.std.specs.BTreeMap.{is_at}
use Rattle.study_index.specs.Keys.{has}
use Rattle.study_index.specs.Live.{place_cmp}
use Rattle.study_index.specs.Proved.Picks.{place_total}
use Rattle.study_index.proofs.KeyLaws.{has-take_more, step_out, at_either}
use Rattle.study_index.proofs.tree.take_all.Goals as goal

-- One place more is out.
pub loop-place-preserved : goal.loop-place-preserved
loop-place-preserved c =
    let R = place_cmp in
    let gone = c.args.gone.now in
    let i = c.loop-place.place-index in
    let old = c.args.tree.now.keys in
    let mid = c.loop-place.tree.keys in
    let new = c.remove.new.self.keys in
    let x = c.place-item.result in (
      omega arith,
      c.remove.ensures.ordered,
      λ q. step_out (has R old q) (has R (take i gone) q) (is_at (R q) x) (has R new q) (has R mid q)
          (c.loop-place.invariant.2 q)
          (c.remove.ensures.updates.0 q ∙ ap (λ b. cond b false (has R mid q)) (at_either place_total x q))
          ∙ ap (λ b. has R old q && not b) (sym (has-take_more R gone i x q c.loop-place-test.true c.place-item.is)),
    )
