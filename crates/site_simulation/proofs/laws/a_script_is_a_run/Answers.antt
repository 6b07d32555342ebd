use Rattle.site_simulation.proofs.Played.{scripts_are_runs}
use Rattle.site_simulation.proofs.laws.a_script_is_a_run.Goals as goal

-- The steps of a script's lines are a run of 16 new sites, and what is printed is what the lines did.
pub returns : goal.returns
returns c = scripts_are_runs
