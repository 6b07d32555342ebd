use Rattle.std.proofs.Common.{◌++◌, ap, sym, ◌∙◌, map}
use Rattle.std.proofs.lemmas.List.{append-nil}
use Rattle.site_state.proofs.Maps.{tree_ops}
use Rattle.site_state.proofs.whole_site.WholeSite.operations.Goals as goal

-- No operation is left, so all operations of the site came, ascending by digest.
pub returns : goal.returns
returns c =
    sym (append-nil _) ∙ ap (λ xs. map (λ o. o.now) c.loop-op.ops.items ++ xs) (sym c.in-None.ensures.steps.0)
    ∙ c.loop-op.invariant ∙ c.into_iter-op-iterator.ensures.into_iter_gives ∙ c.values-op-items.ensures.rest
    ∙ tree_ops c.args.self.now c.self.inside.operations.entries c.self.view_is c.values-op-items.ensures.ordered
