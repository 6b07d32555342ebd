-- The strings of bytes of a length.
use Rattle.std.specs.Prelude.{ℕ, zero, suc, List, [], ◌∷◌, ◌++◌, map}
use Rattle.std.specs.List.{flat_map}

-- the numbers below another, ascending
unfoldable pub numbers_below : ℕ → List ℕ
numbers_below zero = []
numbers_below (suc n) = numbers_below n ++ n ∷ []

-- strings behind a byte
abbrev pub strings_behind : List (List ℕ) → ℕ → List (List ℕ)
strings_behind texts byte = map (λ text. byte ∷ text) texts

-- all strings of so many bytes, in the order of their bytes
unfoldable pub strings : ℕ → List (List ℕ)
strings zero = [] ∷ []
strings (suc n) = flat_map (strings_behind (strings n)) (numbers_below 256)
