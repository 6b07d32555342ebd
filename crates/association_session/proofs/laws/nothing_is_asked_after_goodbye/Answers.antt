use Rattle.association_session.proofs.OrderLaws.{orderly}
use Rattle.association_session.proofs.laws.nothing_is_asked_after_goodbye.Goals as goal

-- The lemma says it.
pub returns : goal.returns
returns c = orderly
