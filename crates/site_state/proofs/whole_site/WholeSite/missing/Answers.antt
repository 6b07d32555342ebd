use Rattle.std.proofs.Common.{ap, ◌∙◌}
use Rattle.std.specs.Prelude.{filter}
use Rattle.site_state.specs.Site.{Map, is_missing}
use Rattle.site_state.proofs.Wholes.{missing_kept}
use Rattle.site_state.proofs.whole_site.WholeSite.missing.Goals as goal

-- The records lack the same digests.
pub returns : goal.returns
returns c =
    c.in_ok-missing.ensures ∙ ap (λ (m : Map). filter (is_missing m) c.args.digests.now) c.site.ensures
    ∙ (λ i. filter (λ d. missing_kept c.args.self.now d i) c.args.digests.now)
