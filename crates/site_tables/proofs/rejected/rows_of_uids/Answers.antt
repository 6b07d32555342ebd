use Rattle.std.proofs.Common.{List, Bor, map, ap, subst, ◌∙◌}
use Rattle.std.specs.List.{flat_map}
use Rattle.records.specs.declared.recorded_content.RecordedContent.{RecordedContent}
use Rattle.operation.specs.Parts.{ContentParts}
use Rattle.site_tables.specs.declared.under.Under.{Under}
use Rattle.site_tables.specs.Rejected.{named_pairs, row_by}
use Rattle.site_tables.specs.Under.{Holds}
use Rattle.site_tables.proofs.RejectedLaws.{rows_are}
use Rattle.site_tables.proofs.rejected.rows_of_uids.Goals as goal

-- The notes that lie under a UID tell of it what all notes do.
pub returns : goal.returns
returns c =
    let content_of = λ (x : Bor RecordedContent). x.now in
    let entries = c.in_ok-entries.entries.items in
    c.in_ok-rows.ensures
    ∙ ap (λ (es : List (Under ContentParts)). map (row_by es) c.args.uids.now) c.deref-2.ensures.value
    ∙ rows_are c.args.taken.now entries c.args.uids.now
    (subst (λ (ns : List ContentParts). Holds (flat_map named_pairs ns) entries)
    (ap (map content_of) c.deref.ensures.value ∙ c.in_ok-notes.ensures) c.in_ok-entries.ensures)
