use Rattle.exchange.proofs.Repeated.{repeats_end}
use Rattle.exchange.proofs.repeating.repeated_exchanges_end.Goals as goal

-- One of the facts that it needs is missing.
pub returns : goal.returns
returns c = repeats_end
