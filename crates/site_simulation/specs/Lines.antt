-- The lines of an input, and what they print.
use Rattle.std.specs.Prelude.{◌≡◌, ℕ, List, [], ◌∷◌, ◌++◌, length, Bool, nat_lt, ◌==◌, if◌then◌else◌}
use Rattle.std.specs.List.{join_with_byte}
use Rattle.site_script.specs.Commands.{command_of}
use Rattle.site_script.specs.Fitting.{LONGEST_LINE}
use Rattle.site_simulation.specs.Output.{without_cr, NOTHING, output_of}
use Rattle.site_simulation.specs.Script.{printed, after}
use Rattle.site_simulation.specs.State.{State}

-- what stands between the LFs of the rest of an input, with the front of a line in hand
abbrev pub lines_from : List ℕ → List ℕ → List (List ℕ)
lines_from front [] = front ∷ []
lines_from front (b ∷ rest) =
    if b == 10 then front ∷ lines_from [] rest else lines_from (front ++ (b ∷ [])) rest

abbrev pub lines_of : List ℕ → List (List ℕ)
lines_of input = lines_from [] input

abbrev pub is_too_long : List ℕ → Bool
is_too_long line = nat_lt LONGEST_LINE (length line)

-- What lines print, one after another. The last has no end, and each other loses the CR before it;
-- one that is too long ends all.
abbrev pub printed_of : State → List (List ℕ) → List ℕ
printed_of state [] = []
printed_of state (line ∷ []) = if is_too_long line then [] else printed state (command_of line)
printed_of state (line ∷ next ∷ lines) =
    if is_too_long line then []
    else printed state (command_of (without_cr line)) ++ printed_of (after state (command_of (without_cr line))) (next ∷
    lines)

-- the lines, joined by LF, are the input
abbrev pub LinesAreTheText : Type 0
LinesAreTheText = (input : List ℕ) → join_with_byte 10 (lines_of input) ≡ input

-- and what is printed for it is what they print
abbrev pub OutputIsOfLines : Type 0
OutputIsOfLines = (input : List ℕ) → output_of input ≡ printed_of NOTHING (lines_of input)
