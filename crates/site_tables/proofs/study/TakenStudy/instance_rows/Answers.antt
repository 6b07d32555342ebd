use Rattle.std.proofs.Common.{List, Bor, map, ap, subst, ◌∙◌}
use Rattle.std.specs.List.{flat_map}
use Rattle.records.specs.declared.recorded_content.RecordedContent.{RecordedContent}
use Rattle.operation.specs.Parts.{ContentParts}
use Rattle.site_tables.specs.declared.study.Instance.{Instance}
use Rattle.site_tables.specs.declared.under.Under.{Under}
use Rattle.site_tables.specs.Rejected.{named_pairs}
use Rattle.site_tables.specs.Study.{instance_row_by}
use Rattle.site_tables.specs.Under.{Holds}
use Rattle.site_tables.proofs.InstanceLaws.{instance_rows_are}
use Rattle.site_tables.proofs.study.TakenStudy.instance_rows.Goals as goal

-- The notes that lie under an instance tell of it what all notes do.
pub returns : goal.returns
returns c =
    let content_of = λ (x : Bor RecordedContent). x.now in
    let notes = c.args.self.now.notes in
    let instances = c.args.self.now.instances in
    let entries = c.in_ok-entries.entries.items in
    c.in_ok-rows.ensures
    ∙ ap (λ (es : List (Under ContentParts)). map (instance_row_by es) c.as_slice-2.result.now) c.deref-2.ensures.value
    ∙ ap (λ (is : List Instance). map (instance_row_by entries) is) c.as_slice-2.ensures
    ∙ instance_rows_are notes entries instances
    (subst (λ (ns : List ContentParts). Holds (flat_map named_pairs ns) entries)
    (ap (map content_of) c.deref.ensures.value ∙ c.in_ok-notes.ensures ∙ c.as_slice.ensures) c.in_ok-entries.ensures)
