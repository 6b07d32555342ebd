use Rattle.ul_state.proofs.Runs.{at_most_one_answer}
use Rattle.ul_state.proofs.table.answers_once.Goals as goal

-- An acceptance leads to Sta6 and a rejection to Sta13, where none is sent.
pub returns : goal.returns
returns c = at_most_one_answer
