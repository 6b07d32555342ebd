use Rattle.std.proofs.Common.{subst, sym}
use Rattle.records.specs.StandIn.{IsRecord}
use Rattle.records.proofs.recorded_content.RecordedContent.copy.Goals as goal

-- A copy holds the same record.
pub invariant_of-result : goal.invariant_of-result
invariant_of-result c = subst IsRecord (sym c.in_ok-try_clone.ensures) c.self.invariant
