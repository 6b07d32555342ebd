use Rattle.archive_query.proofs.RetrieveLaws.{sent_as_it_came}
use Rattle.archive_query.proofs.sending_laws.what_needs_nothing_is_sent_as_it_came.Goals as goal

-- Where no attribute differs the stored bytes are sent.
pub returns : goal.returns
returns c = sent_as_it_came
