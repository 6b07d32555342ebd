use Rattle.std.proofs.Common.{◌≡◌, ◌∷◌, length}
use Rattle.key_matching.specs.WildCard.{star, is_wild_match}
use Rattle.key_matching.proofs.wild_card.is_match_behind_star.Given as goal

-- A `*` with what is left of the key matches what is left of the value exactly where the whole does.
abbrev pub invariant-loop-key : goal.invariant-loop-key
invariant-loop-key l = is_wild_match l.folds (star ∷ l.key) l.value ≡ is_wild_match l.fn.folds (star ∷ l.fn.key)
    l.fn.value

-- With each turn less is left of the key.
abbrev pub decreases-loop-key : goal.decreases-loop-key
decreases-loop-key l = length l.key
