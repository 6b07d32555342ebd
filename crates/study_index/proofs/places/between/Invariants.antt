use Rattle.std.proofs.Common.{◌≡◌}
use Rattle.study_index.proofs.places.between.Given as goal

-- what came so far is in
abbrev pub invariant-loop-place : goal.invariant-loop-place
invariant-loop-place l = l.found.items ≡ l.yielded
