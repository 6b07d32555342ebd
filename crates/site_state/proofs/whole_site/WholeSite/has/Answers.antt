use Rattle.std.proofs.Common.{ap}
use Rattle.std.specs.FinMap as map
use Rattle.site_state.proofs.Maps.{get_held, some_is}
use Rattle.site_state.proofs.whole_site.WholeSite.has.Goals as goal

-- The tree has the digest exactly where the site holds an operation under it.
pub returns : goal.returns
returns c =
    let same = get_held c.self.inside.operations.entries c.args.digest.now in
    let here = ap (λ m. map.get m c.args.digest.now) c.self.view_is in
    rw (c.contains_key.ensures, ← here, same) (some_is _)
