use Rattle.std.proofs.Common.{◌≡◌, ◌++◌, length}
use Rattle.archive_model.proofs.answers.Answers.into_vec.Given as goal

-- The rows so far, with those that are left, are all.
abbrev pub invariant-loop-rows : goal.invariant-loop-rows
invariant-loop-rows l = l.rows.items ++ l.self ≡ l.fn.self

-- A row fewer is left.
abbrev pub decreases-loop-rows : goal.decreases-loop-rows
decreases-loop-rows l = length l.self
