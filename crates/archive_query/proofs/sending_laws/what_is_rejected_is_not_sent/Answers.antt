use Rattle.archive_query.proofs.RetrieveLaws.{rejected_not_sent}
use Rattle.archive_query.proofs.sending_laws.what_is_rejected_is_not_sent.Goals as goal

-- What is covered is not sent, and what a note names that was taken is covered.
pub returns : goal.returns
returns c = rejected_not_sent
