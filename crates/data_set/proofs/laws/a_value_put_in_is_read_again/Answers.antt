use Rattle.data_set.proofs.ValueLaws.{put_value, other_value}
use Rattle.data_set.proofs.laws.a_value_put_in_is_read_again.Goals as goal

-- No element of lesser tag has the tag, so the one put in is found.
pub returns-clause-put : goal.returns-clause-put
returns-clause-put c = put_value

-- An element of another tag stands among those of lesser or of greater tags.
pub returns-clause-others : goal.returns-clause-others
returns-clause-others c = other_value
