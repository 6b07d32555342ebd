use Rattle.std.proofs.Common.{◌≡◌, ap, subst, ◌∙◌}
use Rattle.archive_model.specs.Rows.{rows_of}
use Rattle.site_state.specs.Site.{Map, ops_of}
use Rattle.site_state.specs.Whole.{recorded}
use Rattle.site_state.proofs.Wholes.{rows_kept}
use Rattle.association_worker.specs.Port.{PortParts}
use Rattle.association_worker.proofs.site_port.SitePort.rows.Goals as goal

-- Rows see no byte of a data set, so those of the records are those of the operations.
pub returns-in-Ok-clause-found : goal.returns-in-Ok-clause-found
returns-in-Ok-clause-found c =
    let called = c.args.called.now in
    let view = c.args.view in
    let query = c.args.query.now in
    let records = subst (λ (p : PortParts). c.site.result.now ≡ recorded p.site) c.self.view_is c.site.ensures in
    c.in-Ok.ensures ∙ ap (λ (m : Map). rows_of view called query (ops_of m)) records
    ∙ rows_kept c.args.self.now.site view called query
