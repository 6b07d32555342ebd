use Rattle.std.proofs.Common.{ap, ◌∙◌}
use Rattle.site_state.specs.Site.{Map, ops_of, top_counter_of}
use Rattle.site_state.proofs.Wholes.{top_kept}
use Rattle.site_state.proofs.whole_site.WholeSite.top_counter.Goals as goal

-- All is kept of a correction.
pub returns : goal.returns
returns c =
    c.top_counter.ensures ∙ ap (λ (m : Map). top_counter_of (ops_of m)) c.site.ensures
    ∙ top_kept c.args.self.now
