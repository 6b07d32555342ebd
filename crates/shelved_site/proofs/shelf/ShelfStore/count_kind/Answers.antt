use Rattle.std.proofs.Common.{arith}
use Rattle.shelved_site.proofs.shelf.ShelfStore.count_kind.Goals as goal

-- A disk that is clean afterwards was clean.
pub returns-clause-clean : goal.returns-clause-clean
returns-clause-clean g c clean = omega (arith, c.count_kind.ensures.crash.clean, clean)
