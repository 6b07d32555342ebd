use Rattle.archive_query.proofs.RetrieveLaws.{sent_computed}
use Rattle.archive_query.proofs.sending_laws.what_is_sent_is_computed.Goals as goal

-- What a text spells is what the reader as a function makes of it.
pub returns : goal.returns
returns c = sent_computed
