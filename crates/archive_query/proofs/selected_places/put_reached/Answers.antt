use Rattle.std.proofs.Common.{List, take, ap, ◌∙◌}
use Rattle.std.specs.Prelude.{◌||◌}
use Rattle.octets.specs.Texts.{text_cmp}
use Rattle.join_laws.specs.GrowSet.{union_of}
use Rattle.study_index.specs.Keys.{has}
use Rattle.study_index.specs.Live.{Text, pick_at}
use Rattle.archive_query.specs.Candidates.{is_of_some, is_of_some_series}
use Rattle.archive_query.proofs.SelectedPlaceLaws.{on_ok, reached_by_studies, reached_by_some_series}
use Rattle.archive_query.proofs.SelectedPlaceLaws.{reached_by_instances}
use Rattle.archive_query.proofs.selected_places.put_reached.Goals as goal

-- At STUDY, what is selected is of a study that is named.
pub returns-in-Study : goal.returns-in-Study
returns-in-Study c =
    let old = c.args.uids.now.keys in
    let picks = c.args.index.now.picks in
    on_ok c.put_named_studies.result (λ put. reached_by_studies c.args.selection.now picks old c.put_named_studies.new.uids.keys
    c.in-Study.is (λ uid.
    put uid ∙ ap (λ (ts : List Text). has text_cmp old uid || is_of_some ts (pick_at uid picks))
    c.as_slice-named.ensures))
    c.put_named_studies.ensures

-- At SERIES, it is of a series that is named.
pub returns-in-Series : goal.returns-in-Series
returns-in-Series c =
    let old = c.args.uids.now.keys in
    let picks = c.args.index.now.picks in
    on_ok c.put_named_series.result (λ put. reached_by_some_series c.args.selection.now picks
    old c.put_named_series.new.uids.keys c.in-Series.is (λ uid.
    put uid ∙ ap (λ (t : Text). has text_cmp old uid || is_of_some_series t c.as_slice-named.result.now
    (pick_at uid picks)) (c.cut-study.ensures ∙ ap (take 64) c.as_slice.ensures)
    ∙ ap (λ (ts : List Text). has text_cmp old uid || is_of_some_series (take 64 c.args.selection.now.study) ts
    (pick_at uid picks)) c.as_slice-named.ensures))
    c.put_named_series.ensures

-- At IMAGE, it is one of the instances that are named.
pub returns-then-branch : goal.returns-then-branch
returns-then-branch c =
    let old = c.args.uids.now.keys in
    reached_by_instances c.args.selection.now c.args.index.now.picks old c.put_instances.new.uids.keys c.in-Image.is
    (c.in_ok-put_instances-in-Image.ensures c.if-branch.true ∙ ap (union_of text_cmp old) c.as_slice-named.ensures)
