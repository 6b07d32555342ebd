use Rattle.exchange.proofs.Rounds.{rounds_make_equal}
use Rattle.exchange.proofs.laws.rounds_each_way_make_sites_equal.Goals as goal

-- Each side's operations are the other's.
pub returns : goal.returns
returns c = rounds_make_equal
