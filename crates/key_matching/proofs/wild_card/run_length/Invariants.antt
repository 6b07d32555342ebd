use Rattle.std.proofs.Common.{◌≤◌, ◌-◌, length}
use Rattle.key_matching.specs.WildCardFront.{IsStarless}
use Rattle.key_matching.proofs.wild_card.run_length.Given as goal

-- No byte so far is a `*`.
abbrev pub invariant-loop-n : goal.invariant-loop-n
invariant-loop-n l = record {
  within : l.n ≤ length l.key;
  starless : IsStarless l.n l.key;
}

-- With each turn one byte fewer is left of the key.
abbrev pub decreases-loop-n : goal.decreases-loop-n
decreases-loop-n l = length l.key - l.n
