use Rattle.std.proofs.Common.{sym, ap, ◌∙◌}
use Rattle.operation.specs.RecordParts.{content_record}
use Rattle.records.proofs.StandInLaws.{one_of_record}
use Rattle.records.proofs.recorded_content.RecordedContent.equals.Goals as goal

-- Contents that stand for one record are one.
pub returns : goal.returns
returns c = (
  λ is. one_of_record c.args.self.now c.args.other.now c.see_recorded.ensures c.see_recorded-2.ensures
      (sym c.record.ensures ∙ c.equals.ensures.0 is ∙ c.record-2.ensures),
  λ e. c.equals.ensures.1 (c.record.ensures ∙ ap content_record e ∙ sym c.record-2.ensures),
)
