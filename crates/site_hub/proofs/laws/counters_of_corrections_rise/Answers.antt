use Rattle.site_hub.proofs.Stamping.{counters_rise}
use Rattle.site_hub.proofs.laws.counters_of_corrections_rise.Goals as goal

-- The counter is one more than the greatest that is held.
pub returns : goal.returns
returns c = counters_rise
