use Rattle.std.proofs.Common.{List, ℕ, Bool, Bor, map, ap, ◌∙◌}
use Rattle.std.specs.Prelude.{◌&&◌}
use Rattle.records.specs.declared.recorded_content.RecordedContent.{RecordedContent}
use Rattle.archive_model.specs.Covered.{is_among}
use Rattle.archive_model.specs.Rows.{uid_at}
use Rattle.archive_model.specs.Selection.{is_within, is_among_these, is_selected}
use Rattle.archive_query.proofs.SelectedLaws.{filter_each}
use Rattle.archive_query.proofs.selected.selected.Goals as goal

-- To be among the sorted UIDs is to be among those that are named.
pub returns : goal.returns
returns c =
    let s = c.args.selection.now in
    let now = λ (u : Bor (List ℕ)). u.now in
    c.in_ok-found.ensures
    ∙ filter_each (is_among_these (map now c.deref.result.now) s) (is_selected s) (λ p.
    ap (λ (b : Bool). is_within s p && b) (
    ap (λ (us : List (Bor (List ℕ))). is_among (map now us) (uid_at s.level p)) c.deref.ensures.value
    ∙ c.in_ok-uids.ensures.members (uid_at s.level p)
    ∙ ap (λ (uids : List (List ℕ)). is_among uids (uid_at s.level p)) c.as_slice.ensures))
    (map (λ (x : Bor RecordedContent). x.now) c.args.contents.now)
