use Rattle.std.proofs.Common.{◌∷◌, sym, subst, inr}
use Rattle.octets.specs.Members.{Has}
use Rattle.archive_query.proofs.PutIn.{has_at}
use Rattle.archive_query.proofs.candidates.smaller.Goals.{then-size-least, else-size-least}
use Rattle.archive_query.proofs.candidates.smaller.Goals as goal

-- The next one is one of them.
pub loop-walk-preserved : goal.loop-walk-preserved
loop-walk-preserved c = elim c.if-size-least.branch [
  | then-size-least w ↦ subst (λ x. Has (c.args.first.now ∷ c.args.others.now) x.now) (sym w.one-is)
      (inr (subst (Has c.args.others.now) (sym c.walk-item.is)
      (has_at c.args.others.now c.loop-walk.walk-index c.walk-item.result c.loop-walk-test.true)))
  | else-size-least w ↦ subst (λ x. Has (c.args.first.now ∷ c.args.others.now) x.now) (sym w.one-is)
      c.loop-walk.invariant
]
