-- Lists in which each passes a test with the next.
use Rattle.std.proofs.Common.{◌≡◌, ℕ, zero, suc, ◌≤◌, Bool, true, List, [], ◌∷◌, length, drop, refl, arith}
use Rattle.walk_frames.specs.Walks.{all_pass}

-- No more than one is left.
pub passes_end : {X : Type 0} (test : X → X → Bool) (xs : List X) (i : ℕ) → length xs ≤ suc i
    → all_pass test (drop i xs) ≡ true
passes_end test [] zero short = refl
passes_end test [] (suc i) short = refl
passes_end test (x ∷ []) zero short = refl
passes_end test (x ∷ y ∷ xs) zero short = absurd (omega (arith, short))
passes_end test (x ∷ xs) (suc i) short = passes_end test xs i (omega (arith, short))
