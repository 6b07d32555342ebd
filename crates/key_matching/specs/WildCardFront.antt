-- What one front of a key and a value that match leaves, and where a run of a key without `*` matches.
use Rattle.std.specs.Prelude.{◌≡◌, ℕ, zero, suc, ◌<◌, ◌≤◌, List, [], ◌∷◌, length, drop, Bool, true, false, ◌&&◌, ◌||◌}
use Rattle.std.specs.Prelude.{◌==◌, not, Option, Some, None}
use Rattle.key_matching.specs.WildCard.{star, question_mark, is_byte_match}

-- no `*` stands among the first n bytes
abbrev pub IsStarless : ℕ → List ℕ → Type 0
IsStarless zero key = Unit {0}
IsStarless (suc n) [] = Unit {0}
IsStarless (suc n) (k ∷ key) = ((k == star) ≡ false) × IsStarless n key

-- a `*`, an end or a byte that does not match comes next
abbrev pub IsStuck : Bool → List ℕ → List ℕ → Type 0
IsStuck folds [] value = Unit {0}
IsStuck folds (k ∷ key) [] = Unit {0}
IsStuck folds (k ∷ key) (v ∷ value) = ((k == star) || not (is_byte_match folds k v)) ≡ true

-- whether a byte of a run matches itself alone, where nothing is folded
abbrev pub is_itself : ℕ → Bool
is_itself byte = not (byte == question_mark)

-- whether each byte of a run matches, one after the other, at the front of a value
abbrev pub is_front : Bool → List ℕ → List ℕ → Bool
is_front folds [] value = true
is_front folds (k ∷ run) [] = false
is_front folds (k ∷ run) (v ∷ value) = is_byte_match folds k v && is_front folds run value

-- the first place of a value at which a run matches, and none where it matches nowhere
abbrev pub IsFirstPlace : Bool → List ℕ → List ℕ → Option ℕ → Type 0
IsFirstPlace folds run value None = (n : ℕ) → n ≤ length value → is_front folds run (drop n value) ≡ false
IsFirstPlace folds run value (Some at) =
    (is_front folds run (drop at value) ≡ true) × ((n : ℕ) → n < at → is_front folds run (drop n value) ≡ false)
