use Rattle.std.proofs.Common.{ap, ◌∙◌}
use Rattle.site_state.specs.Site.{Map}
use Rattle.exchange.specs.Held.{offered_in}
use Rattle.exchange.proofs.Recorded.{offered_in_recorded}
use Rattle.exchange.proofs.whole_sites.digests_of_whole_in.Goals as goal

-- The records tell the same.
pub returns : goal.returns
returns c = c.in_ok-digests.ensures ∙ ap (λ (m : Map). offered_in c.args.version c.args.places.now m) c.site.ensures
    ∙ offered_in_recorded c.args.version c.args.places.now c.args.site.now
