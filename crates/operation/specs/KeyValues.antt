-- Values in one text, one behind the other: a place has a tag, and how many bytes of the text are its value.
use Rattle.std.specs.Prelude.{ℕ, ◌+◌, List, [], ◌∷◌, length, take, drop}

-- how many bytes the values of places have together
abbrev pub bytes_of : List (ℕ × ℕ) → ℕ
bytes_of [] = 0
bytes_of (place ∷ places) = place.1 + bytes_of places

-- the values that a text has at places, each with its tag
abbrev pub values_at : List (ℕ × ℕ) → List ℕ → List (ℕ × List ℕ)
values_at [] text = []
values_at (place ∷ places) text = (place.0, take place.1 text) ∷ values_at places (drop place.1 text)

-- how many bytes values have together
abbrev pub bytes_in : List (ℕ × List ℕ) → ℕ
bytes_in [] = 0
bytes_in (value ∷ values) = length value.1 + bytes_in values
