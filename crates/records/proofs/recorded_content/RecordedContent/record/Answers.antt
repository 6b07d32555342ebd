use Rattle.std.proofs.Common.{sym, ap, ◌∙◌}
use Rattle.std.specs.Arc.{arc_value}
use Rattle.operation.specs.RecordParts.{content_record}
use Rattle.records.proofs.StandInLaws.{of_record}
use Rattle.records.proofs.recorded_content.RecordedContent.record.Goals as goal

-- The record of what stands for it is this one.
pub returns : goal.returns
returns c =
    c.deref.ensures ∙ sym (of_record (arc_value c.self.inside.record) c.self.invariant)
    ∙ ap content_record c.self.view_is
