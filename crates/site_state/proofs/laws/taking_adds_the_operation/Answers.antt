use Rattle.site_state.proofs.Same.{taking_adds}
use Rattle.site_state.proofs.laws.taking_adds_the_operation.Goals as goal

-- An operation that is taken, new or known, is added to the site.
pub returns : goal.returns
returns c = taking_adds
