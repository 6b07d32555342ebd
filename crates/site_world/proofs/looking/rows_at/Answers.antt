use Rattle.std.proofs.Common.{List, ℕ, ap, ◌∙◌}
use Rattle.archive_model.specs.Rows.{rows_of}
use Rattle.site_state.specs.Site.{Map, ops_of}
use Rattle.site_state.proofs.Wholes.{rows_kept}
use Rattle.site_world.specs.Steps.{title_of}
use Rattle.site_world.proofs.looking.rows_at.Goals as goal

-- Rows see no byte of a data set, so those of the records are those of the operations.
pub returns : goal.returns
returns c =
    let m = c.args.site.now in
    let view = c.args.view in
    let query = c.args.query.now in
    c.in_ok-rows.ensures
    ∙ ap (λ (called : List ℕ). rows_of view called query (ops_of c.site.result.now)) c.title_of.ensures
    ∙ ap (λ (k : Map). rows_of view (title_of view) query (ops_of k)) c.site.ensures
    ∙ rows_kept m view (title_of view) query
