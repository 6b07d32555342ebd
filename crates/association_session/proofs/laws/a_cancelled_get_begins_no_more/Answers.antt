use Rattle.association_session.proofs.SelectedLaws.{cancel_ends}
use Rattle.association_session.proofs.laws.a_cancelled_get_begins_no_more.Goals as goal

-- The lemma says it.
pub returns : goal.returns
returns c = cancel_ends
