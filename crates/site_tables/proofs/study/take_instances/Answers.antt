use Rattle.std.proofs.Common.{Bor, List, ap, map, ◌∙◌}
use Rattle.operation.specs.Parts.{ContentParts}
use Rattle.records.specs.declared.recorded_content.RecordedContent.{RecordedContent}
use Rattle.site_state.specs.Site.{ops_of}
use Rattle.archive_model.specs.declared.view.View.TheVariants.{Audit}
use Rattle.archive_model.specs.declared.selection.Selection.{Selection}
use Rattle.archive_model.specs.Selection.{selected}
use Rattle.archive_model.specs.Shown.{shown}
use Rattle.site_tables.specs.Study.{with_shown}
use Rattle.site_tables.proofs.study.take_instances.Goals as goal

-- What is shown and selected of the study is its picks.
pub returns : goal.returns
returns c =
    let ops = ops_of c.args.site.now in
    c.in_ok-found.ensures
    ∙ ap (λ (cs : List ContentParts). map (with_shown ops) cs)
    (ap (map (λ (x : Bor RecordedContent). x.now)) c.deref.ensures.value ∙ c.in_ok-contents.ensures
    ∙ ap (λ (s : Selection). selected s (shown Audit ops)) c.in_ok-selection.ensures)
