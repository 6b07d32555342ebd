use Rattle.std.proofs.Common.{◌≡◌, length}
use Rattle.archive_model.specs.Answer.{sets_of_rest}
use Rattle.archive_model.proofs.answers.Answers.next.Given as goal

-- The rows that are left stay.
abbrev pub invariant-loop-row : goal.invariant-loop-row
invariant-loop-row l = sets_of_rest l.self-inside.first l.self-inside.rest.items ≡ l.fn.self

-- A buffer fewer is left.
abbrev pub decreases-loop-row : goal.decreases-loop-row
decreases-loop-row l = length l.self-inside.rest.items
