use Rattle.ul_state.proofs.Runs.{open_accepts_nothing}
use Rattle.ul_state.proofs.table.accepts_nothing_after_an_acceptance.Goals as goal

-- Sta6 leads to Sta6, Sta13 and Sta1 alone, and no row of theirs accepts.
pub returns : goal.returns
returns c = open_accepts_nothing
