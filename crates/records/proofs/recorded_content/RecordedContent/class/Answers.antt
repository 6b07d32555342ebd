use Rattle.std.proofs.Common.{◌≤◌, length, subst, sym}
use Rattle.operation.specs.Parts.{ContentParts}
use Rattle.records.proofs.StandInLaws.{class_of_uid}
use Rattle.records.proofs.recorded_content.RecordedContent.class.Goals as goal

-- The class of a content is a UID, and no UID is longer.
pub returns-clause-short : goal.returns-clause-short
returns-clause-short c =
    rw c.class.ensures (rw c.deref.ensures (subst (λ (q : ContentParts). length q.class ≤ 64)
    (sym c.self.view_is) (class_of_uid c.args.self.now c.see_recorded.ensures)))
