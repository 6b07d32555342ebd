use Rattle.site_state.proofs.Same.{taking_adds}
use Rattle.exchange.proofs.Holdings.{site_takes}
use Rattle.exchange.proofs.whole_sites.WholeSiteHolder.take.Goals as goal

-- A site takes as a holder that nobody else changes.
pub returns-in-Ok-clause-takes : goal.returns-in-Ok-clause-takes
returns-in-Ok-clause-takes c = site_takes _ _ _ _ c.in-Ok.ensures.takes

-- It then holds the operation, new or known.
pub returns-in-Ok-clause-added : goal.returns-in-Ok-clause-added
returns-in-Ok-clause-added c = taking_adds _ _ _ _ c.in-Ok.ensures.takes
