use Rattle.exchange.proofs.Parted.{seen_fits}
use Rattle.exchange.proofs.laws.a_have_that_is_seen_to_have_all_has_it.Goals as goal

-- One that has not all is full, or lacks the place that does not fit.
pub returns : goal.returns
returns c = seen_fits
