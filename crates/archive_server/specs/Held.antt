-- How many operations an archive has held, as a file beside it says.
use Rattle.std.specs.Prelude.{ℕ, List, [], ◌∷◌, ◌++◌}
use Rattle.std.specs.Fmt.{decimal}

-- a number in a line of its own
abbrev pub held_line : ℕ → List ℕ
held_line count = decimal count ++ 10 ∷ []

-- the line, twice
abbrev pub held_text : ℕ → List ℕ
held_text count = held_line count ++ held_line count
