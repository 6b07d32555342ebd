use Rattle.std.proofs.Common.{◌∙◌}
use Rattle.site_state.specs.Site.{ops_of}
use Rattle.site_state.proofs.Lookups.{covered_is}
use Rattle.site_state.proofs.site.Site.is_covered.Goals as goal

-- What hides does so under one of the titles.
pub returns : goal.returns
returns c = c.is_hidden.ensures ∙ covered_is c.args.view (ops_of c.args.self.now) c.args.uid.now
