use Rattle.std.proofs.Common.{ℕ, ap, ◌∙◌}
use Rattle.site_state.specs.Site.{Map}
use Rattle.shelved_site.specs.Reports.{SERIES_KIND, reported}
use Rattle.shelved_site.proofs.reporting.report_on.Goals as goal

-- The report of the site is that of what can be read of the store.
pub returns-clause-report : goal.returns-clause-report
returns-clause-report g c clean =
    let old = c.args.store.now in
    let mid = c.site_on.new.store in
    let sited = c.in_ok-site.field-0 in
    let told = sited.unreadable.items in
    let early = c.report_with.ensures.clean clean in
    let it = c.in_ok-site.ensures.site early in
    record {
      ops = it.ops;
      listed = g.met.S.Store.read_shows old mid told it.ops it.listed;
      told = c.in_ok-report.ensures.report clean
          ∙ ap (λ (series : ℕ). reported sited.site series)
          (g.met.S.Store.same_count old mid (c.in_ok-site.ensures.same early) SERIES_KIND)
          ∙ ap (λ (m : Map). reported m (g.S.Store.count old SERIES_KIND)) it.took;
    }
