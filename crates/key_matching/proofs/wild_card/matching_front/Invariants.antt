use Rattle.std.proofs.Common.{◌≡◌, ◌≤◌, ◌-◌, length, drop}
use Rattle.key_matching.specs.WildCard.{is_wild_match}
use Rattle.key_matching.specs.WildCardFront.{IsStarless}
use Rattle.key_matching.proofs.wild_card.matching_front.Given as goal

-- The bytes so far are no `*` and match, so key and value match exactly where their rests do.
abbrev pub invariant-loop-n : goal.invariant-loop-n
invariant-loop-n l = record {
  within_key : l.n ≤ length l.key;
  within_value : l.n ≤ length l.value;
  starless : IsStarless l.n l.key;
  rest : is_wild_match l.folds l.key l.value ≡ is_wild_match l.folds (drop l.n l.key) (drop l.n l.value);
}

-- With each turn one byte fewer is left of the key.
abbrev pub decreases-loop-n : goal.decreases-loop-n
decreases-loop-n l = length l.key - l.n
