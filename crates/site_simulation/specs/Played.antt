-- A script is a run of a world of 16 new sites.
use Rattle.std.specs.Prelude.{◌≡◌, ℕ, ◌+◌, List, [], ◌∷◌, ◌++◌, length, Option, Some, None, Result, ◌==◌, if◌then◌else◌}
use Rattle.std.specs.List.{filter_map, flat_map}
use Rattle.site_script.specs.Commands.{command_of}
use Rattle.site_script.specs.declared.command.Command.{Command}
use Rattle.site_world.specs.Messages.{WorldState}
use Rattle.site_world.specs.declared.fault.WorldFault.{WorldFault}
use Rattle.site_simulation.specs.declared.script.Move.{Move}
use Rattle.site_simulation.specs.declared.script.Move.TheVariants.{Says, Names, Does}
use Rattle.site_world.specs.declared.step.Step.{Step}
use Rattle.site_world.specs.declared.step.Seen.{Seen}
use Rattle.site_simulation.specs.Output.{without_cr, is_full, NOTHING, output_of}
use Rattle.site_world.specs.Runs.{Run, Headline}
use Rattle.site_simulation.specs.Script.{move_of, after}
use Rattle.site_simulation.specs.State.{State}
use Rattle.site_world.specs.Steps.{seen_by}
use Rattle.site_simulation.specs.Texts.{site_line, seen_lines}

-- what a line did: it printed a text, or it did a step, which was answered so
pub data Deed : Type 0 where
  printed : List ℕ → Deed
  stepped : Step → Result Seen WorldFault → Deed

abbrev pub deed_by : State → Move → Deed
deed_by state (Says text) = printed text
deed_by state (Names name) = printed (site_line name (length state.names + 1))
deed_by state (Does step) = stepped step (seen_by state.world step)

abbrev pub deed_of : State → Command → Deed
deed_of state command = deed_by state (move_of state command)

-- with this made and the front of a line in hand, the deeds of the lines of the rest of an input,
-- up to one that is too long
abbrev pub deeds_from : State → List ℕ → List ℕ → List Deed
deeds_from state front [] = deed_of state (command_of front) ∷ []
deeds_from state front (b ∷ rest) =
    if b == 10 then deed_of state (command_of (without_cr front)) ∷ deeds_from (after state (command_of (without_cr
    front))) [] rest
    else if is_full front then []
    else deeds_from state (front ++ (b ∷ [])) rest

-- what is made at their end
abbrev pub end_from : State → List ℕ → List ℕ → State
end_from state front [] = after state (command_of front)
end_from state front (b ∷ rest) =
    if b == 10 then end_from (after state (command_of (without_cr front))) [] rest
    else if is_full front then state
    else end_from state (front ++ (b ∷ [])) rest

abbrev pub step_in : Deed → Option Step
step_in (printed text) = None
step_in (stepped step answer) = Some step

abbrev pub answer_in : Deed → Option (Result Seen WorldFault)
answer_in (printed text) = None
answer_in (stepped step answer) = Some answer

-- what a deed printed: of a step, the lines of its answer
abbrev pub text_of : Deed → List ℕ
text_of (printed text) = text
text_of (stepped step answer) = seen_lines answer

abbrev pub steps_in : List Deed → List Step
steps_in deeds = filter_map step_in deeds

abbrev pub answers_in : List Deed → List (Result Seen WorldFault)
answers_in deeds = filter_map answer_in deeds

-- the deeds of the lines of an input, and its world at the end
abbrev pub deeds_of : List ℕ → List Deed
deeds_of input = deeds_from NOTHING [] input

abbrev pub world_of : List ℕ → WorldState
world_of input = (end_from NOTHING [] input).world

-- The steps of a script's lines are a run of 16 new sites, for which the headline holds,
-- and what is printed is what the lines did, in order.
pub record IsPlayed (input : List ℕ) : Type 0 where
  pub run : Run NOTHING.world (steps_in (deeds_of input)) (answers_in (deeds_of input)) (world_of input)
  pub headline : Headline (steps_in (deeds_of input)) (answers_in (deeds_of input)) (world_of input)
  pub printed_all : output_of input ≡ flat_map text_of (deeds_of input)

abbrev pub ScriptsAreRuns : Type 0
ScriptsAreRuns = (input : List ℕ) → IsPlayed input
