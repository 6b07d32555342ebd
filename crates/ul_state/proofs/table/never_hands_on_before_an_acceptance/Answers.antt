use Rattle.ul_state.proofs.Runs.{handed_on_behind_one}
use Rattle.ul_state.proofs.table.never_hands_on_before_an_acceptance.Goals as goal

-- From Sta2 a row that hands on stands behind the one acceptance.
pub returns : goal.returns
returns c = handed_on_behind_one
