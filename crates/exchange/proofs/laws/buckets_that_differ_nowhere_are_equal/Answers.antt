use Rattle.exchange.proofs.Bucketed.{no_place_is_equal}
use Rattle.exchange.proofs.laws.buckets_that_differ_nowhere_are_equal.Goals as goal

-- Each list is one of 256 buckets, so two that are equal in each place are equal.
pub returns : goal.returns
returns c = no_place_is_equal
