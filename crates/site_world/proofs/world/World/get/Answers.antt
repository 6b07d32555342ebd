use Rattle.site_world.proofs.Worlds.{get_happens}
use Rattle.site_world.proofs.world.World.get.Goals as goal

-- A site that sends stays as it is, and so do all others.
pub returns-in-Some : goal.returns-in-Some
returns-in-Some c = get_happens c.args.self.now c.args.number c.args.view c.args.selection.now c.args.accepts.now
    c.in-Some.site.now c.get_at.result c.in-Some.ensures c.get_at.ensures
