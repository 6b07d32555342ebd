use Rattle.ul_state.proofs.Runs.{closing_hands_nothing_on}
use Rattle.ul_state.proofs.table.never_hands_on_after_goodbye.Goals as goal

-- Sta13 leads to Sta13 and Sta1 alone, and no row of theirs hands on.
pub returns : goal.returns
returns c = closing_hands_nothing_on
