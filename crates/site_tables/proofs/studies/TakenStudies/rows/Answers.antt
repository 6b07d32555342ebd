use Rattle.std.proofs.Common.{List, Bor, map, ap, subst, ◌∙◌}
use Rattle.records.specs.declared.recorded_content.RecordedContent.{RecordedContent}
use Rattle.operation.specs.Parts.{ContentParts}
use Rattle.site_tables.specs.declared.under.Under.{Under}
use Rattle.site_tables.specs.Studies.{study_pair, row_by}
use Rattle.site_tables.specs.Under.{Holds}
use Rattle.site_tables.proofs.StudyLaws.{rows_are}
use Rattle.site_tables.proofs.studies.TakenStudies.rows.Goals as goal

-- The contents that lie under a study are those of the study.
pub returns : goal.returns
returns c =
    let content_of = λ (x : Bor RecordedContent). x.now in
    let tags = c.args.tags.now in
    let entries = c.in_ok-entries.entries.items in
    let rejected = c.args.self.now.rejected in
    c.in_ok-rows.ensures
    ∙ ap (λ (es : List (Under ContentParts)). map (row_by tags es) c.args.answers.now) c.deref-2.ensures.value
    ∙ rows_are tags rejected entries c.args.answers.now
    (subst (λ (cs : List ContentParts). Holds (map study_pair cs) entries)
    (ap (map content_of) c.deref.ensures.value ∙ c.in_ok-rejected.ensures ∙ c.as_slice.ensures)
    c.in_ok-entries.ensures)
