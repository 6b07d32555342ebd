use Rattle.archive_query.proofs.RetrieveLaws.{same_sites}
use Rattle.archive_query.proofs.sending_laws.same_sites_send_alike.Goals as goal

-- Sites that hold the same are one site, and what is sent of a set is one thing.
pub returns : goal.returns
returns c = same_sites
