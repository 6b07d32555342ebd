use Rattle.std.proofs.Common.{take, ap, ◌∙◌}
use Rattle.std.specs.Prelude.{◌||◌}
use Rattle.octets.specs.Texts.{text_cmp}
use Rattle.study_index.specs.Keys.{has}
use Rattle.study_index.specs.Live.{Text, pick_at, is_of_series}
use Rattle.archive_query.proofs.SelectedPlaceLaws.{on_ok, reached_by_series}
use Rattle.archive_query.proofs.selected_places.put_series.Goals as goal

-- What is selected is of the series that is named.
pub returns : goal.returns
returns c =
    let old = c.args.uids.now.keys in
    let picks = c.args.index.now.picks in
    on_ok c.put_series.result (λ put. reached_by_series c.args.selection.now picks old c.put_series.new.uids.keys
    c.requires.level (λ uid.
    put uid
    ∙ ap (λ (t : Text). has text_cmp old uid || is_of_series t c.cut.result (pick_at uid picks)) c.requires.study
    ∙ ap (λ (t : Text). has text_cmp old uid || is_of_series (take 64 c.args.selection.now.study) t (pick_at uid picks))
    (c.cut.ensures ∙ ap (take 64) c.as_slice.ensures)))
    c.put_series.ensures
