use Rattle.operation.proofs.Bounds.{target_short}
use Rattle.operation.proofs.correction.Correction.target.Goals as goal

-- The key of a lawful correction is a UID or plain, and neither is longer.
pub returns-clause-short : goal.returns-clause-short
returns-clause-short c = target_short _ c.self.invariant
