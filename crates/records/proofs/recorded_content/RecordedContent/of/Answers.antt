use Rattle.std.proofs.Common.{sym, subst, ◌∙◌}
use Rattle.records.specs.StandIn.{IsRecord}
use Rattle.records.proofs.StandInLaws.{is_record}
use Rattle.records.proofs.recorded_content.RecordedContent.of.Goals as goal

-- The record of a content is lawful.
pub invariant_of-result : goal.invariant_of-result
invariant_of-result c =
    subst IsRecord (sym (c.in_ok-new.ensures.ok ∙ c.in_ok-of.ensures)) (is_record c.args.content.now c.body.ensures.content)
