use Rattle.exchange.proofs.Joins.{exchange_gives_all}
use Rattle.exchange.proofs.run_laws.an_exchange_gives_all.Goals as goal

-- What the other side showed it has, or it is in the places that differ, so it was offered, asked for and given.
pub returns : goal.returns
returns g c = exchange_gives_all g.A.Holder.holds g.A.Holder.alone g.A.Holder.refuses_load g.B.Holder.holds
    g.B.Holder.alone g.B.Holder.refuses_load
