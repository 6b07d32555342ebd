use Rattle.std.proofs.Common.{refl, ap, ◌∙◌}
use Rattle.exchange_tree.specs.Sums.{sum_if_any}
use Rattle.exchange_tree.proofs.Kept.{renewed}
use Rattle.exchange_tree.proofs.kept_sums.KeptSums.renew.Goals as goal

-- The others are as they were, and this one is that of its digests.
pub returns-clause-all : goal.returns-clause-all
returns-clause-all c = λ before after was same now.
    renewed c.self.inside.sums.items c.args.place 65536 c.sum_if_any.result c.args.beneath.now before after refl
    c.ranges.place.fits (c.sum_if_any.ensures ∙ ap sum_if_any c.as_arrays.ensures) (c.self.view_is ∙ was) same now
