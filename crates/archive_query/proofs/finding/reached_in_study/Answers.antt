use Rattle.std.proofs.Common.{◌≡◌, List, take, map, ap, subst, sym, ◌∙◌, Bor}
use Rattle.operation.specs.Parts.{ContentParts}
use Rattle.records.specs.declared.recorded_content.RecordedContent.{RecordedContent}
use Rattle.octets.specs.Members.{Has}
use Rattle.archive_model.specs.Shown.{shown_at}
use Rattle.site_state.specs.Site.{ops_of}
use Rattle.archive_model.specs.declared.key.Level.TheVariants.{Image}
use Rattle.archive_model.specs.declared.query.Query.{Query}
use Rattle.archive_model.specs.Rows.{named, uid_at}
use Rattle.archive_query.specs.Firsts.{firsts_in_study}
use Rattle.archive_query.specs.Found.{AreEnough}
use Rattle.archive_query.proofs.FirstRows.{regrouped, ascends_map, mapped_members}
use Rattle.archive_query.proofs.SeriesRows.{series_enough}
use Rattle.archive_query.proofs.finding.reached_in_study.Goals as goal

-- The firsts are enough, in whatever order they came.
pub returns : goal.returns
returns c =
    let view = c.args.view in
    let q = c.args.prepared.now in
    let ops = ops_of c.args.site.now in
    let index = c.index-index.result.now in
    let content_of = λ (x : Bor RecordedContent). x.now in
    let key = λ (x : Bor RecordedContent). uid_at Image x.now in
    let found = c.in_ok-found.found.items in
    let sorted = c.sort_by_instance.new.contents.items in
    let taken : map content_of found ≡ firsts_in_study (shown_at view ops) index.picks (take 64 q.study) =
    c.in_ok-found.ensures
    ∙ ap (firsts_in_study (shown_at view ops) index.picks) (c.cut-study.ensures ∙ ap (take 64) c.as_slice.ensures
    ∙ ap (λ (r : Query). take 64 r.study) c.query-query.ensures)
    in
    let groups = c.in_ok-sort_by_instance.ensures.groups in
    subst (AreEnough view q ops) (sym (
    c.in_ok-named.ensures
    ∙ ap (λ r. named r (map content_of c.deref.result.now)) c.query-query.ensures
    ∙ ap (λ (xs : List (Bor RecordedContent)). named q (map content_of xs)) c.deref.ensures.value))
    (series_enough view ops index c.index-index.ensures.says c.held.ensures.picks.0 q c.requires.counted
    c.requires.level
    (map content_of sorted)
    (ascends_map (λ x. x.instance) content_of sorted c.in_ok-sort_by_instance.ensures.ascends)
    (λ x h. mapped_members content_of found sorted (regrouped key found sorted (sym groups)) x
    (subst (λ (cs : List ContentParts). Has cs x) (sym taken) h))
    (λ x h. subst (λ (cs : List ContentParts). Has cs x) taken
    (mapped_members content_of sorted found (regrouped key sorted found groups) x h)))
