use Rattle.association_session.proofs.OrderLaws.{replied}
use Rattle.association_session.proofs.laws.a_response_stands_behind_its_call.Goals as goal

-- The lemma says it.
pub returns : goal.returns
returns c = replied
