use Rattle.exchange_walk.proofs.Finding.{answer_finds}
use Rattle.exchange_walk.proofs.laws.an_answer_finds_what_one_lacks.Goals as goal

-- A digest in one set alone is beneath a child whose sums differ, and that answers.
pub returns : goal.returns
returns c = answer_finds
