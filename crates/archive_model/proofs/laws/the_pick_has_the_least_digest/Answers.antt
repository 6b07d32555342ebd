use Rattle.archive_model.proofs.ModelLaws.{pick_is_content, pick_is_least, contents_have_pick}
use Rattle.archive_model.proofs.laws.the_pick_has_the_least_digest.Goals as goal

-- The pick is the first content of its UID, so it is one.
pub returns-clause-content : goal.returns-clause-content
returns-clause-content c = pick_is_content

-- The operations ascend by digest, so none stands before the first.
pub returns-clause-least : goal.returns-clause-least
returns-clause-least c = pick_is_least

-- Where there is a content of a UID, there is a first one.
pub returns-clause-there : goal.returns-clause-there
returns-clause-there c = contents_have_pick
