use Rattle.std.proofs.Common.{◌≡◌, ◌++◌, map}
use Rattle.study_index.proofs.places.all.Given as goal

-- what came so far, with what is left, is all
abbrev pub invariant-loop-place : goal.invariant-loop-place
invariant-loop-place l = map (λ p. p.now) l.found.items ++ l.place-iterator ≡ l.initial.place-iterator
