use Rattle.std.proofs.Common.{◌∙◌, sym, ap}
use Rattle.site_state.specs.Site.{of_entries}
use Rattle.site_state.specs.Journal.{without}
use Rattle.site_state.proofs.Journals.{without-push}
use Rattle.site_state.proofs.tree.take_out.Goals as goal

-- The last operation is taken out, and the others are still to be.
pub loop-digest-preserved : goal.loop-digest-preserved
loop-digest-preserved c =
    let left = c.pop.new.self.items in
    let tree = of_entries c.loop-digest.tree.entries in
    ap (without left) c.take_one_out.ensures
    ∙ sym (without-push left c.in-Some.digest tree)
    ∙ ap (λ added. without added tree) (sym c.in-Some.ensures.items)
    ∙ c.loop-digest.invariant
