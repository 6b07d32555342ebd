use Rattle.std.proofs.Common.{List, map, ap, sym, ◌∙◌, refl, Bor}
use Rattle.std.specs.List.{filter_map}
use Rattle.records.specs.declared.recorded_content.RecordedContent.{RecordedContent}
use Rattle.archive_query.specs.Grouping.{under, groups_by}
use Rattle.archive_model.specs.Rows.{uid_at, row_of_with, row_at_with, uids_at}
use Rattle.archive_query.proofs.GroupMaps.{map-map, groups-map, filter_map-map}
use Rattle.archive_query.specs.Found.{value_by}
use Rattle.archive_query.proofs.rows.rows_among.Goals as goal

-- The groups of the sorted contents are those of the contents under each UID, and each matching group has its row.
pub returns : goal.returns
returns c =
    let now = λ (x : Bor RecordedContent). x.now in
    let q = c.args.query.now in
    let value = value_by c.args.fixes.now in
    let cs = map now c.args.contents.items in
    let one = row_of_with value c.args.called.now q in
    let key = λ (x : Bor RecordedContent). uid_at q.level x.now in
    c.in_ok-rows.ensures
    ∙ ap (λ (gs : List (Bor (List (Bor RecordedContent)))). filter_map one (map (λ g. map now g.now) gs))
    c.deref-2.ensures.value
    ∙ ap (filter_map one) (
    sym (map-map (λ (g : Bor (List (Bor RecordedContent))). g.now) (map now) c.in_ok-groups.groups.items)
    ∙ ap (map (map now)) (c.in_ok-groups.ensures ∙ ap (groups_by key) c.deref.ensures.value
    ∙ c.in_ok-sorted.ensures.groups)
    ∙ groups-map (uid_at q.level) now c.args.contents.items)
    ∙ filter_map-map (λ k. under (uid_at q.level) k cs) one (row_at_with value c.args.called.now q cs) (λ uid. refl)
    (uids_at q.level cs)
