use Rattle.std.proofs.Common.{ap, ◌∙◌}
use Rattle.site_state.specs.Site.{Map}
use Rattle.exchange.specs.Held.{lacked}
use Rattle.exchange.proofs.Recorded.{lacked_recorded}
use Rattle.exchange.proofs.whole_sites.missing_of_whole.Goals as goal

-- The records tell the same.
pub returns : goal.returns
returns c = c.in_ok-missing.ensures ∙ ap (λ (m : Map). lacked m c.args.digests.now) c.site.ensures
    ∙ lacked_recorded c.args.site.now c.args.digests.now
