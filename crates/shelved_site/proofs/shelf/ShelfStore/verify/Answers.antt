use Rattle.std.proofs.Common.{arith}
use Rattle.shelved_site.proofs.shelf.ShelfStore.verify.Goals as goal

-- A disk that is clean afterwards was clean.
pub returns-clause-clean : goal.returns-clause-clean
returns-clause-clean g c clean = omega (arith, c.verify.ensures.crash.clean, clean)
