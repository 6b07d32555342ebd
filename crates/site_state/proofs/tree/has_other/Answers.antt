use Rattle.std.proofs.Common.{None, Some, refl}
use Rattle.site_state.specs.Site.{of_entries}
use Rattle.site_state.proofs.Maps.{found_at}
use Rattle.site_state.proofs.Unions.{other_or_not, none_held}
use Rattle.site_state.proofs.tree.has_other.Goals as goal

-- Where nothing is held under the digest, no other operation is.
pub returns-in-None : goal.returns-in-None
returns-in-None c =
    none_held (of_entries c.args.tree.now.entries) c.args.digest.now c.args.op.now
    (found_at (of_entries c.args.tree.now.entries) c.args.tree.now.entries c.args.digest.now None refl
    c.in-None.ensures.value)

-- What is held is another operation exactly where it does not equal this one.
pub returns-in-Some : goal.returns-in-Some
returns-in-Some c =
    other_or_not (of_entries c.args.tree.now.entries) c.args.digest.now c.args.op.now c.in-Some.held.now c.equals.result
    (found_at (of_entries c.args.tree.now.entries) c.args.tree.now.entries c.args.digest.now (Some c.in-Some.held.now)
    refl c.in-Some.ensures.value) c.equals.ensures
