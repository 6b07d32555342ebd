use Rattle.data_set.proofs.Sets.{spelled_once}
use Rattle.data_set.proofs.laws.one_reading.Goals as goal

-- A text comes to one outcome.
pub returns : goal.returns
returns c = spelled_once
