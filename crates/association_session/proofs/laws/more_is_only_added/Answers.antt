use Rattle.association_session.proofs.TalkLaws.{talks_front}
use Rattle.association_session.proofs.laws.more_is_only_added.Goals as goal

-- The lemma says it.
pub returns : goal.returns
returns c = talks_front
