use Rattle.std.proofs.Common.{◌≤◌, length, subst, sym}
use Rattle.operation.specs.Parts.{ContentParts}
use Rattle.records.proofs.StandInLaws.{instance_of_uid}
use Rattle.records.proofs.recorded_content.RecordedContent.instance.Goals as goal

-- The instance of a content is a UID, and no UID is longer.
pub returns-clause-short : goal.returns-clause-short
returns-clause-short c =
    rw c.instance.ensures (rw c.deref.ensures (subst (λ (q : ContentParts). length q.instance ≤ 64)
    (sym c.self.view_is) (instance_of_uid c.args.self.now c.see_recorded.ensures)))
