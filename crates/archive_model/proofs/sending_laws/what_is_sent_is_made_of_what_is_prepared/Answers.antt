use Rattle.archive_model.proofs.PreparedLaws.{made_is_corrected, body_is_made, sent_is_made}
use Rattle.archive_model.proofs.sending_laws.what_is_sent_is_made_of_what_is_prepared.Goals as goal

-- With its changes put in, a content's elements are the corrected ones, and it has none where it goes as stored.
pub returns-clause-text : goal.returns-clause-text
returns-clause-text c = made_is_corrected

-- A body is such bytes with their syntax.
pub returns-clause-body : goal.returns-clause-body
returns-clause-body c = body_is_made

-- And a sending is made of each that is prepared, in their order.
pub returns-clause-sent : goal.returns-clause-sent
returns-clause-sent c = sent_is_made
