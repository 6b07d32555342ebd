-- What a script prints for a whole input.
use Rattle.std.specs.Prelude.{ℕ, ◌+◌, ◌-◌, List, [], ◌∷◌, ◌++◌, length, take, slice_index, replicate, Bool, true, false}
use Rattle.std.specs.Prelude.{not, nat_le, ◌==◌, ◌&&◌, if◌then◌else◌}
use Rattle.std.specs.FinMap as finmap
use Rattle.site_script.specs.Commands.{command_of}
use Rattle.site_script.specs.Fitting.{LONGEST_LINE}
use Rattle.site_world.specs.Messages.{new_world}
use Rattle.site_simulation.specs.Script.{printed, after}
use Rattle.site_simulation.specs.State.{State}

-- whether the last byte is a CR
abbrev pub ends_in_cr : List ℕ → Bool
ends_in_cr line = not (length line == 0) && slice_index line (length line - 1) == 13

-- a line that ended, without the CR before its end
abbrev pub without_cr : List ℕ → List ℕ
without_cr line = if ends_in_cr line then take (length line - 1) line else line

-- whether a line has all the bytes that it may have
abbrev pub is_full : List ℕ → Bool
is_full front = nat_le LONGEST_LINE (length front)

-- With this made and the front of a line in hand, what the rest of an input prints. A line that is too long ends it.
abbrev pub output_from : State → List ℕ → List ℕ → List ℕ
output_from state front [] = printed state (command_of front)
output_from state front (b ∷ rest) =
    if b == 10 then printed state (command_of (without_cr front)) ++ output_from (after state (command_of (without_cr
    front))) [] rest
    else if is_full front then []
    else output_from state (front ++ (b ∷ [])) rest

-- the same, of the lines that end in it alone: what stands behind the last end is no line yet
abbrev pub ended_from : State → List ℕ → List ℕ → List ℕ
ended_from state front [] = []
ended_from state front (b ∷ rest) =
    if b == 10 then printed state (command_of (without_cr front)) ++ ended_from (after state (command_of (without_cr
    front))) [] rest
    else if is_full front then []
    else ended_from state (front ++ (b ∷ [])) rest

-- how many lines the rest of an input ends; what stands behind the last end is a line where it has bytes
abbrev pub count_from : List ℕ → List ℕ → ℕ
count_from [] [] = 0
count_from (b ∷ front) [] = 1
count_from front (b ∷ rest) = if b == 10 then 1 + count_from [] rest else count_from (front ++ (b ∷ [])) rest

-- whether a line is longer than a line may be
abbrev pub is_long_from : List ℕ → List ℕ → Bool
is_long_from front [] = false
is_long_from front (b ∷ rest) = if b == 10 then is_long_from [] rest else if is_full front then true else is_long_from
    (front ++ (b ∷ [])) rest

-- 16 sites that hold nothing, of which none has a name
abbrev pub NOTHING : State
NOTHING = record { names = []; world = new_world (replicate 16 finmap.empty) }

abbrev pub output_of : List ℕ → List ℕ
output_of input = output_from NOTHING [] input

-- what the lines print that end in a front of an input
abbrev pub ended_of : List ℕ → List ℕ
ended_of input = ended_from NOTHING [] input

abbrev pub count_of : List ℕ → ℕ
count_of input = count_from [] input

abbrev pub has_long_line : List ℕ → Bool
has_long_line input = is_long_from [] input
