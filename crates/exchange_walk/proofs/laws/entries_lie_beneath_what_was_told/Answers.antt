use Rattle.exchange_walk.proofs.Finding.{entries_lie}
use Rattle.exchange_walk.proofs.laws.entries_lie_beneath_what_was_told.Goals as goal

-- An entry that answers is for a child by a digit at which sums differ.
pub returns : goal.returns
returns c = entries_lie
