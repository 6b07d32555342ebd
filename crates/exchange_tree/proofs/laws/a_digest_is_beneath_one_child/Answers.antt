use Rattle.exchange_tree.proofs.Beginnings.{children_have_all}
use Rattle.exchange_tree.proofs.laws.a_digest_is_beneath_one_child.Goals as goal

-- It is beneath the child of the digit behind the node, and no other has that digit there.
pub returns : goal.returns
returns c = children_have_all
