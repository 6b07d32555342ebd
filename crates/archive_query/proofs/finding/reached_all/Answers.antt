use Rattle.std.proofs.Common.{List, map, ap, subst, sym, ◌∙◌, Bor}
use Rattle.records.specs.declared.recorded_content.RecordedContent.{RecordedContent}
use Rattle.site_state.specs.Site.{ops_of}
use Rattle.archive_model.specs.Rows.{named}
use Rattle.archive_query.specs.Found.{AreEnough}
use Rattle.archive_query.proofs.CandidateLaws.{all_enough}
use Rattle.archive_query.proofs.finding.reached_all.Goals as goal

-- The candidates are enough.
pub returns : goal.returns
returns c =
    let q = c.args.prepared.now in
    let ops = ops_of c.args.site.now in
    let content_of = λ (x : Bor RecordedContent). x.now in
    subst (AreEnough c.args.view q ops) (sym (
    c.in_ok-named.ensures
    ∙ ap (λ r. named r (map content_of c.deref.result.now)) c.query.ensures
    ∙ ap (λ (xs : List (Bor RecordedContent)). named q (map content_of xs)) c.deref.ensures.value
    ∙ ap (named q) c.in_ok-shown.ensures.found))
    (all_enough c.args.view q ops c.index.result.now c.index.ensures.says c.see_lawful.ensures.lawful
    c.in_ok-uids.uids.keys c.in_ok-shown.ensures.ordered c.in_ok-uids.ensures)
