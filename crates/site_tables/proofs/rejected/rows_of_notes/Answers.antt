use Rattle.std.proofs.Common.{◌≡◌, List, ℕ, Bor, IfOk, map, ap, subst, ◌∙◌}
use Rattle.records.specs.declared.recorded_content.RecordedContent.{RecordedContent}
use Rattle.site_tables.specs.Rejected.{covered_uids, rejected_row}
use Rattle.site_tables.proofs.rejected.rows_of_notes.Goals as goal

-- The UIDs are those that the notes name.
pub returns : goal.returns
returns c =
    let content_of = λ (x : Bor RecordedContent). x.now in
    subst (λ (us : List (List ℕ)). IfOk c.rows_of_uids.result (λ rows. rows.items
    ≡ map (rejected_row c.args.taken.now) us))
    (c.deref-2.ensures.value ∙ c.in_ok-uids.ensures
    ∙ ap covered_uids (ap (map content_of) c.deref.ensures.value ∙ c.in_ok-notes.ensures))
    c.rows_of_uids.ensures
