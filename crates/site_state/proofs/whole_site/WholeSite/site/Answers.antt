use Rattle.std.proofs.Common.{ap, ◌∙◌}
use Rattle.site_state.specs.Whole.{recorded}
use Rattle.site_state.proofs.whole_site.WholeSite.site.Goals as goal

-- It is kept as the site of the records.
pub returns : goal.returns
returns c = c.self.invariant.1 ∙ ap recorded c.self.view_is
