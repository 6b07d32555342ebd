use Rattle.association_session.proofs.TalkLaws.{talks_once}
use Rattle.association_session.proofs.laws.there_is_one_list_of_deeds.Goals as goal

-- The lemma says it.
pub returns : goal.returns
returns c = talks_once
