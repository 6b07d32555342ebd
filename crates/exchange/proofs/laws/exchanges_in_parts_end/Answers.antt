use Rattle.exchange.proofs.Parted.{parts_end}
use Rattle.exchange.proofs.laws.exchanges_in_parts_end.Goals as goal

-- The first place that differs fits, and is the same then.
pub returns : goal.returns
returns c = parts_end
