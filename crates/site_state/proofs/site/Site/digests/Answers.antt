use Rattle.std.proofs.Common.{◌++◌, ap, sym, ◌∙◌}
use Rattle.std.proofs.lemmas.List.{append-nil}
use Rattle.site_state.proofs.Maps.{tree_digests}
use Rattle.site_state.proofs.site.Site.digests.Goals as goal

-- No digest is left, so all digests of the site came, ascending.
pub returns : goal.returns
returns c =
    sym (append-nil c.loop-digest.digests.items) ∙ ap (λ xs. c.loop-digest.digests.items ++ xs)
    (sym c.in-None.ensures.steps.0) ∙ c.loop-digest.invariant ∙ c.into_iter-digest-iterator.ensures.into_iter_gives
    ∙ c.keys-digest-items.ensures.rest
    ∙ tree_digests c.args.self.now c.self.inside.operations.entries c.self.view_is c.keys-digest-items.ensures.ordered
