use Rattle.std.proofs.Common.{◌≡◌, ◌≤◌, ◌-◌, length, drop}
use Rattle.key_matching.specs.WildCardFront.{is_front}
use Rattle.key_matching.proofs.wild_card.is_front.Given as goal

-- The bytes so far match, so the run is a front exactly where its rest is one of the rest.
abbrev pub invariant-loop-n : goal.invariant-loop-n
invariant-loop-n l = record {
  within : l.n ≤ length l.run;
  rest : is_front l.folds (drop l.n l.run) (drop l.n l.value) ≡ is_front l.folds l.run l.value;
}

-- With each turn one byte fewer is left of the run.
abbrev pub decreases-loop-n : goal.decreases-loop-n
decreases-loop-n l = length l.run - l.n
