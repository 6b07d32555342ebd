use Rattle.std.proofs.Common.{◌≡◌, ◌<◌, ◌+◌, ◌-◌, ℕ, length, drop, false}
use Rattle.key_matching.specs.WildCardFront.{is_front}
use Rattle.key_matching.proofs.wild_card.place_by_trying.Given as goal

-- At no place so far does the run match.
abbrev pub invariant-loop-at : goal.invariant-loop-at
invariant-loop-at l = (n : ℕ) → n < l.at → is_front l.folds l.run (drop n l.value) ≡ false

-- With each turn one place fewer is left.
abbrev pub decreases-loop-at : goal.decreases-loop-at
decreases-loop-at l = length l.value + 1 - l.at
