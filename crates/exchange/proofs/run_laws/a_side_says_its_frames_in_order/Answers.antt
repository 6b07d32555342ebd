use Rattle.exchange.proofs.Orders.{says_in_order}
use Rattle.exchange.proofs.run_laws.a_side_says_its_frames_in_order.Goals as goal

-- Each frame that is heard leads to the next that is said.
pub returns : goal.returns
returns g c = says_in_order g.H.Holder.holds g.H.Holder.alone
