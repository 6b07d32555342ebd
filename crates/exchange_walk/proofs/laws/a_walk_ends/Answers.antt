use Rattle.exchange_walk.proofs.Ending.{walk_ends}
use Rattle.exchange_walk.proofs.laws.a_walk_ends.Goals as goal

-- No node has more than 63 digits, and each answer has one more.
pub returns : goal.returns
returns c = walk_ends
