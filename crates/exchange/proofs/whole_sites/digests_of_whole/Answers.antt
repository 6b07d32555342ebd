use Rattle.std.proofs.Common.{ap, ◌∙◌}
use Rattle.site_state.specs.Site.{Map}
use Rattle.exchange.specs.Held.{offered}
use Rattle.exchange.proofs.Recorded.{offered_recorded}
use Rattle.exchange.proofs.whole_sites.digests_of_whole.Goals as goal

-- The records tell the same.
pub returns : goal.returns
returns c = c.in_ok-digests.ensures ∙ ap (λ (m : Map). offered c.args.version m) c.site.ensures
    ∙ offered_recorded c.args.version c.args.site.now
