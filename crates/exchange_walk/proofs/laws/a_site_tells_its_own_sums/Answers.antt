use Rattle.exchange_walk.proofs.Finding.{said_is_told}
use Rattle.exchange_walk.proofs.laws.a_site_tells_its_own_sums.Goals as goal

-- What is told as a split are the sums of its children.
pub returns : goal.returns
returns c = said_is_told
