use Rattle.operation.proofs.Bounds.{value_short}
use Rattle.operation.proofs.correction.Correction.value.Goals as goal

-- The value of a lawful correction is plain, and no plain text is longer.
pub returns-clause-short : goal.returns-clause-short
returns-clause-short c = rw c.as_slice.ensures (value_short _ c.self.invariant)
