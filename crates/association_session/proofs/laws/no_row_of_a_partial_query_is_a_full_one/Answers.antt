use Rattle.association_session.proofs.AnsweredLaws.{answered}
use Rattle.association_session.proofs.laws.no_row_of_a_partial_query_is_a_full_one.Goals as goal

-- The lemma says it.
pub returns : goal.returns
returns c = answered
