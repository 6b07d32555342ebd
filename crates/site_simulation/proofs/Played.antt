-- A script is a run of a world.
use Rattle.std.proofs.Common.{◌≡◌, ℕ, List, [], ◌∷◌, ◌++◌, Bool, true, false, cond}
use Rattle.std.proofs.Common.{refl, sym, ap, ◌∙◌, ◌==◌}
use Rattle.std.specs.List.{flat_map}
use Rattle.std.proofs.lemmas.List.{append-nil}
use Rattle.site_script.specs.Commands.{command_of}
use Rattle.site_script.specs.declared.command.Command.{Command}
use Rattle.site_simulation.specs.declared.script.Move.{Move}
use Rattle.site_simulation.specs.declared.script.Move.TheVariants.{Says, Names, Does}
use Rattle.site_simulation.specs.Output.{without_cr, is_full, NOTHING, output_from}
use Rattle.site_simulation.specs.Played.{Deed, deed_by, deed_of, deeds_from, end_from, text_of, steps_in, answers_in}
use Rattle.site_simulation.specs.Played.{deeds_of, world_of, ScriptsAreRuns}
use Rattle.site_world.specs.Runs.{Run}
use Rattle.site_simulation.specs.Script.{move_of, said, moved, printed as printed_by, after}
use Rattle.site_simulation.specs.State.{State}
use Rattle.site_world.specs.Messages.{WorldState}
use Rattle.site_world.specs.Steps.{after as after_step}
use Rattle.site_world.proofs.Alike.{headline}
use Rattle.site_world.proofs.Answered.{step_happens}

-- ---- a line

by_move : (state : State) (move : Move) (deeds : List Deed) (new : WorldState) →
    Run (moved state move).world (steps_in deeds) (answers_in deeds) new
    → Run state.world (steps_in (deed_by state move ∷ deeds)) (answers_in (deed_by state move ∷ deeds)) new
by_move state (Says text) deeds new run = run
by_move state (Names name) deeds new run = run
by_move state (Does step) deeds new run = (after_step state.world step, step_happens state.world step, run)

-- What a line does is a run before that of the lines behind it.
line_run : (state : State) (command : Command) (deeds : List Deed) (new : WorldState) →
    Run (after state command).world (steps_in deeds) (answers_in deeds) new
    → Run state.world (steps_in (deed_of state command ∷ deeds)) (answers_in (deed_of state command ∷ deeds)) new
unfolding after
line_run state command deeds new run = by_move state (move_of state command) deeds new run

text_by : (state : State) (move : Move) → said state move ≡ text_of (deed_by state move)
text_by state (Says text) = refl
text_by state (Names name) = refl
text_by state (Does step) = refl

line_text : (state : State) (command : Command) → printed_by state command ≡ text_of (deed_of state command)
unfolding printed_by
line_text state command = text_by state (move_of state command)

-- ---- an input

by_byte : (is_end full : Bool) (state now later : State) (deed : Deed) (mine others : List Deed)
    → Run state.world (steps_in (deed ∷ mine)) (answers_in (deed ∷ mine)) now.world →
    Run state.world (steps_in others) (answers_in others) later.world
    → let deeds = cond is_end (deed ∷ mine) (cond full [] others) in
    Run state.world (steps_in deeds) (answers_in deeds) (cond is_end now (cond full state later)).world
by_byte true full state now later deed mine others one other = one
by_byte false true state now later deed mine others one other = refl
by_byte false false state now later deed mine others one other = other

-- The lines of the rest of an input are a run.
played_from : (state : State) (front rest : List ℕ)
    → Run state.world (steps_in (deeds_from state front rest)) (answers_in (deeds_from state front rest)) (end_from
    state front rest).world
played_from state front [] = line_run state (command_of front) [] (after state (command_of front)).world refl
played_from state front (b ∷ rest) =
    let command = command_of (without_cr front) in
    let next = after state command in
    by_byte (b == 10) (is_full front) state (end_from next [] rest) (end_from state (front ++ b ∷ []) rest) (deed_of
    state command)
    (deeds_from next [] rest) (deeds_from state (front ++ b ∷ []) rest)
    (line_run state command (deeds_from next [] rest) (end_from next [] rest).world (played_from next [] rest))
    (played_from state (front ++ b ∷ []) rest)

text_byte : (is_end full : Bool) (said rest other : List ℕ) (deed : Deed) (mine others : List Deed)
    → said ≡ text_of deed → rest ≡ flat_map text_of mine → other ≡ flat_map text_of others
    → cond is_end (said ++ rest) (cond full [] other) ≡ flat_map text_of (cond is_end (deed ∷ mine) (cond full []
    others))
text_byte true full said rest other deed mine others one more later = ap (λ (t : List ℕ). t ++ rest) one
    ∙ ap (λ (t : List ℕ). text_of deed ++ t) more
text_byte false true said rest other deed mine others one more later = refl
text_byte false false said rest other deed mine others one more later = later

-- And they print what they did.
text_from : (state : State) (front rest : List ℕ) → output_from state front rest
    ≡ flat_map text_of (deeds_from state front rest)
text_from state front [] = line_text state (command_of front)
    ∙ sym (append-nil (text_of (deed_of state (command_of front))))
text_from state front (b ∷ rest) =
    let command = command_of (without_cr front) in
    let next = after state command in
    text_byte (b == 10) (is_full front) (printed_by state command) (output_from next [] rest) (output_from state (front
    ++ b ∷ []) rest) (deed_of state command)
    (deeds_from next [] rest) (deeds_from state (front ++ b ∷ []) rest)
    (line_text state command) (text_from next [] rest) (text_from state (front ++ b ∷ []) rest)

pub scripts_are_runs : ScriptsAreRuns
scripts_are_runs input =
    let run = played_from NOTHING [] input in
    record {
      run = run;
      headline = headline NOTHING.world (world_of input) (steps_in (deeds_of input)) (answers_in (deeds_of input)) refl
          run;
      printed_all = text_from NOTHING [] input;
    }
