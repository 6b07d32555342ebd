use Rattle.site_world.proofs.Codes.{same_op-equal, same_site-equal}
use Rattle.site_world.proofs.headline.what_is_told_to_be_one_is_one.Goals as goal

-- A code tells each operation from every other.
pub returns-clause-operations : goal.returns-clause-operations
returns-clause-operations c = same_op-equal

-- And each site.
pub returns-clause-sites : goal.returns-clause-sites
returns-clause-sites c = same_site-equal
