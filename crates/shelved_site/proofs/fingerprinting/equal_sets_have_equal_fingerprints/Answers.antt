use Rattle.shelved_site.proofs.Hashed.{equal_sets_alike}
use Rattle.shelved_site.proofs.fingerprinting.equal_sets_have_equal_fingerprints.Goals as goal

-- They hold equal maps.
pub returns : goal.returns
returns c = equal_sets_alike
