use Rattle.exchange_walk.proofs.Whole.{whole_walk_finds}
use Rattle.exchange_walk.proofs.laws.a_whole_walk_finds_what_one_lacks.Goals as goal

-- It is beneath a place, or beneath a split that the next turn answers.
pub returns : goal.returns
returns c = whole_walk_finds
