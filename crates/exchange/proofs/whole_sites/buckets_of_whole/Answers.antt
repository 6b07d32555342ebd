use Rattle.std.proofs.Common.{ℕ, List, ap, ◌∙◌}
use Rattle.site_state.specs.Site.{Map}
use Rattle.exchange.specs.Held.{offered}
use Rattle.exchange.specs.Buckets.{bucket_list}
use Rattle.exchange.proofs.Recorded.{offered_recorded}
use Rattle.exchange.proofs.whole_sites.buckets_of_whole.Goals as goal

-- The records tell the same.
pub returns : goal.returns
returns c = c.in_ok-buckets.ensures ∙ ap (λ (m : Map). bucket_list (offered c.args.version m)) c.site.ensures
    ∙ ap (λ (ds : List (List ℕ)). bucket_list ds) (offered_recorded c.args.version c.args.site.now)
