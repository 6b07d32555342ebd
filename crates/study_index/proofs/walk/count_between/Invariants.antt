use Rattle.std.proofs.Common.{◌≡◌, ◌≤◌, length}
use Rattle.study_index.proofs.walk.count_between.Given as goal

-- so many came so far, and no more than the limit
abbrev pub invariant-loop : goal.invariant-loop
invariant-loop l = (l.count ≡ length l.yielded) × (l.count ≤ l.most)
