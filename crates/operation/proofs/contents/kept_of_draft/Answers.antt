use Rattle.std.proofs.Common.{arith}
use Rattle.operation.proofs.contents.kept_of_draft.Goals as goal

-- The data set is no longer than is kept.
pub kept_of_set-requires-clause-short : goal.kept_of_set-requires-clause-short
kept_of_set-requires-clause-short c = omega (arith, c.len.ensures.value)

-- The set is what the bytes of the draft spell.
pub kept_of_set-requires-clause-spelled : goal.kept_of_set-requires-clause-spelled
kept_of_set-requires-clause-spelled c = rw c.as_slice.ensures at c.in_ok-set.ensures.found
