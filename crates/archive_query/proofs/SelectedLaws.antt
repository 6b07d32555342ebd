-- Filters by equal tests are equal.
use Rattle.std.proofs.Common.{◌≡◌, Bool, cond, List, [], ◌∷◌, refl, ap, ◌∙◌}
use Rattle.std.specs.List.{filter}

pub filter_each : {X : Type 0} (p q : X → Bool) → ((x : X) → p x ≡ q x) → (xs : List X) → filter p xs ≡ filter q xs
filter_each p q e [] = refl
filter_each {X} p q e (x ∷ xs) =
    ap (λ (b : Bool). cond b (x ∷ filter p xs) (filter p xs)) (e x) ∙ ap (λ (ys : List X). cond (q x) (x ∷ ys) ys)
    (filter_each p q e xs)
