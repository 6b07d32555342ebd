use Rattle.std.proofs.Common.{List, map, ap, ◌∙◌, Bor}
use Rattle.records.specs.declared.recorded_content.RecordedContent.{RecordedContent}
use Rattle.archive_model.specs.Selection.{selected}
use Rattle.site_state.specs.Site.{ops_of}
use Rattle.archive_query.proofs.SelectedPlaceLaws.{selected_enough}
use Rattle.archive_query.proofs.preparing.shown_selected.Goals as goal

-- The candidates are enough.
pub returns : goal.returns
returns c =
    let s = c.args.selection.now in
    let content_of = λ (x : Bor RecordedContent). x.now in
    c.in_ok-found.ensures
    ∙ ap (λ (xs : List (Bor RecordedContent)). selected s (map content_of xs)) c.deref.ensures.value
    ∙ ap (selected s) c.in_ok-contents.ensures.found
    ∙ selected_enough c.args.view s (ops_of c.args.site.now) c.index.result.now c.index.ensures.says
    c.in_ok-uids.uids.keys c.in_ok-contents.ensures.ordered c.in_ok-uids.ensures
