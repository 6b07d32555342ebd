use Rattle.std.proofs.Common.{◌≡◌, ap, subst, ◌∙◌}
use Rattle.archive_model.specs.Listed.{list_of}
use Rattle.archive_query.proofs.LoadedLaws.{lists_kept}
use Rattle.site_state.specs.Site.{Map, ops_of}
use Rattle.site_state.specs.Whole.{recorded}
use Rattle.association_worker.specs.Port.{PortParts}
use Rattle.association_worker.proofs.site_port.SitePort.listed.Goals as goal

-- The records list the same.
pub returns-in-Ok-clause-listed : goal.returns-in-Ok-clause-listed
returns-in-Ok-clause-listed c =
    let view = c.args.view in
    let selection = c.args.selection.now in
    let records = subst (λ (p : PortParts). c.site.result.now ≡ recorded p.site) c.self.view_is c.site.ensures in
    c.of.ensures ∙ c.in-Ok.ensures.listed ∙ ap (λ (m : Map). list_of view selection (ops_of m)) records
    ∙ lists_kept c.args.self.now.site view selection
