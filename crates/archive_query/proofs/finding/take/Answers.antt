use Rattle.std.proofs.Common.{List, map, ap, subst, ◌∙◌, Bor}
use Rattle.operation.specs.Parts.{ContentParts}
use Rattle.records.specs.declared.recorded_content.RecordedContent.{RecordedContent}
use Rattle.archive_model.specs.declared.query.Query.{Query}
use Rattle.site_state.specs.Site.{ops_of}
use Rattle.archive_query.specs.Found.{AreFixes, rows_found}
use Rattle.archive_query.proofs.FoundLaws.{enough_found}
use Rattle.archive_query.proofs.finding.take.Goals as goal

-- The values that were taken are those that the set's corrections give to what is shown.
pub returns : goal.returns
returns c called =
    let now = λ (x : Bor RecordedContent). x.now in
    let q = c.args.prepared.now in
    let ops = ops_of c.args.site.now in
    let cs = map now c.in_ok-contents.contents.items in
    let fixes = c.in_ok-fixes.fixes in
    ap (λ (ds : List ContentParts). rows_found called q (ds, fixes)) (c.in_ok-contents-2.ensures
    ∙ ap (map now) c.deref-2.ensures.value)
    ∙ enough_found c.args.view ops called q cs fixes c.in_ok-contents.ensures.shown
    (subst (λ (xs : List (Bor RecordedContent)). AreFixes ops q.asked (map now xs) fixes) c.deref.ensures.value
    (subst (λ (r : Query). AreFixes ops r.asked (map now c.deref.result.now) fixes) c.query.ensures
    c.in_ok-fixes.ensures))
    ∙ c.in_ok-contents.ensures.rows called
