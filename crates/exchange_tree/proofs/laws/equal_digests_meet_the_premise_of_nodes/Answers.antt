use Rattle.exchange_tree.proofs.Steps.{equal_digests_tell}
use Rattle.exchange_tree.proofs.laws.equal_digests_meet_the_premise_of_nodes.Goals as goal

-- What is equal is equal beneath each child, whatever the sums are.
pub returns : goal.returns
returns c = equal_digests_tell
