use Rattle.exchange_tree.proofs.Premises.{told_hashes_tell}
use Rattle.exchange_tree.proofs.laws.texts_that_are_told_apart_meet_the_premise_of_nodes.Goals as goal

-- One text has the same digests, or the same kept sums, each of the same digests.
pub returns : goal.returns
returns c = told_hashes_tell
