use Rattle.std.proofs.Common.{ap, sym, ◌∙◌}
use Rattle.std.specs.FinMap as finmap
use Rattle.site_state.proofs.Maps.{sorted_entries}
use Rattle.site_state.proofs.whole_site.WholeSite.tree.Goals as goal

-- The entries of the tree ascend, so they are those of the map that they make.
pub returns : goal.returns
returns c = sym (sorted_entries c.self.inside.operations.entries c.len.ensures.ordered) ∙ ap finmap.entries
    c.self.view_is
