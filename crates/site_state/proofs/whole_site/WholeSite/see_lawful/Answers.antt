use Rattle.std.proofs.Common.{subst}
use Rattle.site_state.specs.Site.{IsSite}
use Rattle.site_state.proofs.whole_site.WholeSite.see_lawful.Goals as goal

-- Each was put under its digest.
pub returns : goal.returns
returns c = record { own = subst IsSite c.self.view_is c.self.invariant.0 }
