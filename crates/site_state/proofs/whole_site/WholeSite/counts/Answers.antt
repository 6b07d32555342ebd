use Rattle.std.proofs.Common.{ap, ◌∙◌}
use Rattle.site_state.specs.Site.{Map, ops_of, counts_of}
use Rattle.site_state.proofs.Wholes.{counts_kept}
use Rattle.site_state.proofs.whole_site.WholeSite.counts.Goals as goal

-- Each operation has a record of its kind.
pub returns : goal.returns
returns c =
    c.counts.ensures ∙ ap (λ (m : Map). counts_of (ops_of m)) c.site.ensures
    ∙ counts_kept c.args.self.now
