use Rattle.exchange.proofs.Joins.{exchange_makes_equal}
use Rattle.exchange.proofs.run_laws.an_exchange_makes_holders_equal.Goals as goal

-- What either side has in the end it had from its begin, or the other side gave it.
pub returns : goal.returns
returns g c = exchange_makes_equal g.A.Holder.holds g.A.Holder.alone g.A.Holder.refuses_load g.B.Holder.holds
    g.B.Holder.alone g.B.Holder.refuses_load
