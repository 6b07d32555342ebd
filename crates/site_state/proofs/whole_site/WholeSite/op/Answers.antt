use Rattle.std.proofs.Common.{sym}
use Rattle.site_state.proofs.Maps.{found_at, found_own}
use Rattle.site_state.proofs.whole_site.WholeSite.op.Goals as goal

-- What the tree has under the digest is what the site holds under it.
pub returns-clause-found : goal.returns-clause-found
returns-clause-found c = sym (found_at _ c.self.inside.operations.entries c.args.digest.now _ c.self.view_is
    c.get.ensures.value)

-- The digest is that of the operation that was found.
pub returns-clause-own : goal.returns-clause-own
returns-clause-own c = found_own c.self.inside.operations.entries c.args.digest.now c.get.result c.self.invariant.0
    c.get.ensures.value
