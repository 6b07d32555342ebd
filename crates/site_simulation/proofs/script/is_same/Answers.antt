use Rattle.site_world.proofs.Codes.{same_site-is}
use Rattle.site_simulation.proofs.script.is_same.Goals as goal

-- The sites are told to hold the same exactly where they are equal maps.
pub returns : goal.returns
returns c = same_site-is c.args.a.now c.args.b.now c.same.result c.same.ensures
