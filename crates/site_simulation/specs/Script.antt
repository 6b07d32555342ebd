-- What the lines of a script do, and what each prints.
use Rattle.std.specs.Prelude.{ℕ, ◌+◌, List, [], ◌∷◌, ◌++◌, length, Option, Some, None, Ok, Err, Result, Bool, true}
use Rattle.std.specs.Prelude.{false, nat_le, codes, if◌then◌else◌}
use Rattle.operation.specs.declared.op.Op.TheVariants.{Content as a_content}
use Rattle.operation.specs.declared.fault.OpFault.{OpFault}
use Rattle.operation.specs.Fault.{number_of}
use Rattle.operation.specs.Parts.{ContentParts}
use Rattle.archive_model.specs.Contents.{flagged}
use Rattle.archive_model.specs.declared.view.View.{View}
use Rattle.archive_model.specs.declared.query.Query.{Query}
use Rattle.archive_model.specs.declared.fault.QueryFault.{QueryFault}
use Rattle.archive_model.specs.Fault.{number_of as number_of_query_fault}
use Rattle.archive_model.specs.Query.{query_of}
use Rattle.archive_model.specs.declared.selection.Selection.{Selection}
use Rattle.archive_model.specs.Selection.{selection_of}
use Rattle.site_state.specs.Site.{Map, ops_of}
use Rattle.site_script.specs.declared.command.Command.{Command}
use Rattle.site_script.specs.declared.command.Command.TheVariants.{Skip, Bad, Site, Image, Note}
use Rattle.site_script.specs.declared.command.Command.TheVariants.{Correct as correct_line, Find, Get as get_line, Same}
use Rattle.site_script.specs.declared.command.Command.TheVariants.{Offer as offer_line, Buckets as buckets_line}
use Rattle.site_script.specs.declared.command.Command.TheVariants.{Deliver as deliver_line, Old as old_line, Flagged}
use Rattle.site_world.specs.declared.step.Step.TheVariants.{Take, Correct, Offer, Buckets, Deliver, Old, Look, Get}
use Rattle.site_simulation.specs.declared.script.Move.{Move}
use Rattle.site_simulation.specs.declared.script.Move.TheVariants.{Says, Names, Does}
use Rattle.site_script.specs.Names.{is}
use Rattle.site_world.specs.Same.{same_site}
use Rattle.site_script.specs.Sets.{image_made, note_made, identifier}
use Rattle.site_script.specs.Retrieves.{SCRIPT_ACCEPTS}
use Rattle.site_simulation.specs.State.{State}
use Rattle.site_world.specs.Steps.{site_at, seen_by, after as after_step}
use Rattle.site_simulation.specs.Texts.{BAD, fault_line, site_line, seen_lines, same_line, flagged_lines}

-- the number of a name among these, the first of which has this number
abbrev pub number_from : ℕ → List ℕ → List (List ℕ) → Option ℕ
number_from n name [] = None
number_from n name (known ∷ names) = if is known name then Some n else number_from (n + 1) name names

-- the number of a site, from 1
abbrev pub number_named : List ℕ → List (List ℕ) → Option ℕ
number_named name names = number_from 1 name names

abbrev pub is_named : Option ℕ → Bool
is_named None = false
is_named (Some number) = true

-- what a line says of a site that there is; an unknown one is told before all else
abbrev pub at_site : Option ℕ → (ℕ → Move) → Move
at_site None move = Says (fault_line (codes "world") 1)
at_site (Some number) move = move number

-- a new name, of which a script has 16 at most
abbrev pub site_move : State → List ℕ → Move
site_move state name =
    if is_named (number_named name state.names) then Says BAD
    else if nat_le 16 (length state.names) then Says (fault_line (codes "world") 1)
    else Names name

abbrev pub take_move : ℕ → Result ContentParts OpFault → Move
take_move n (Ok content) = Does (Take n (a_content content))
take_move n (Err fault) = Says (fault_line (codes "op") (number_of fault))

abbrev pub look_move : ℕ → View → Result Query QueryFault → Move
look_move n view (Ok query) = Does (Look n view query)
look_move n view (Err fault) = Says (fault_line (codes "query") (number_of_query_fault fault))

abbrev pub get_move : ℕ → View → Result Selection QueryFault → Move
get_move n view (Ok selection) = Does (Get n view selection SCRIPT_ACCEPTS)
get_move n view (Err fault) = Says (fault_line (codes "query") (number_of_query_fault fault))

abbrev pub same_move : Option Map → Option Map → Move
same_move (Some a) (Some b) = Says (same_line (same_site a b))
same_move _ _ = Says (fault_line (codes "world") 1)

abbrev pub flagged_move : Option Map → Move
flagged_move (Some m) = Says (flagged_lines (flagged (ops_of m)))
flagged_move None = Says (fault_line (codes "world") 1)

-- what a line does: it says something, names a site, or does a step
abbrev pub move_of : State → Command → Move
move_of state Skip = Says []
move_of state Bad = Says BAD
move_of state (Site name) = site_move state name
move_of state (Image line) = at_site (number_named line.site state.names) (λ n. take_move n (image_made line))
move_of state (Note line) = at_site (number_named line.site state.names) (λ n. take_move n (note_made line))
move_of state (correct_line line) = at_site (number_named line.site state.names)
    (λ n. Does (Correct n line.target line.tag line.value))
move_of state (Find line) = at_site (number_named line.site state.names)
    (λ n. look_move n line.view (query_of (identifier line.keys)))
move_of state (get_line line) = at_site (number_named line.site state.names)
    (λ n. get_move n line.view (selection_of (identifier line.keys)))
move_of state (offer_line a b) =
    at_site (number_named a state.names) (λ m. at_site (number_named b state.names) (λ n. Does (Offer m n)))
move_of state (buckets_line a b) =
    at_site (number_named a state.names) (λ m. at_site (number_named b state.names) (λ n. Does (Buckets m n)))
move_of state (deliver_line number) = Does (Deliver number)
move_of state (old_line site) = at_site (number_named site state.names) (λ n. Does (Old n))
move_of state (Same a b) =
    at_site (number_named a state.names) (λ m. at_site (number_named b state.names)
    (λ n. same_move (site_at state.world.sites m) (site_at state.world.sites n)))
move_of state (Flagged site) =
    at_site (number_named site state.names) (λ n. flagged_move (site_at state.world.sites n))

abbrev pub said : State → Move → List ℕ
said state (Says text) = text
said state (Names name) = site_line name (length state.names + 1)
said state (Does step) = seen_lines (seen_by state.world step)

abbrev pub moved : State → Move → State
moved state (Says text) = state
moved state (Names name) = record { names = state.names ++ (name ∷ []); world = state.world }
moved state (Does step) = record { names = state.names; world = after_step state.world step }

-- what a line prints
unfoldable pub printed : State → Command → List ℕ
printed state command = said state (move_of state command)

-- what a script has made after it
unfoldable pub after : State → Command → State
after state command = moved state (move_of state command)
