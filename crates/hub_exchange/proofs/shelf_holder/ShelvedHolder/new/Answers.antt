use Rattle.hub_exchange.proofs.Gains.{begun}
use Rattle.hub_exchange.proofs.shelf_holder.ShelvedHolder.new.Goals as goal

-- The site and its shelf are what they were at their opening.
pub invariant_of-result : goal.invariant_of-result
invariant_of-result g c = begun g.K.Keep.is_up g.K.Keep.lasts _ _ _ _ c.requires.opening c.requires.lasted
