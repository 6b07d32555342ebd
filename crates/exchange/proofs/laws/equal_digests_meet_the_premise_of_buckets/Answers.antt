use Rattle.exchange.proofs.Bucketed.{equal_digests_tell, equal_places_tell}
use Rattle.exchange.proofs.laws.equal_digests_meet_the_premise_of_buckets.Goals as goal

-- What is equal is equal in each place, whatever the buckets are.
pub returns-clause-equal : goal.returns-clause-equal
returns-clause-equal c = equal_digests_tell

pub returns-clause-places : goal.returns-clause-places
returns-clause-places c = equal_places_tell
