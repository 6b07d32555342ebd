use Rattle.site_world.proofs.Worlds.{look_happens}
use Rattle.site_world.proofs.world.World.look.Goals as goal

-- The site of the number answers its rows, or memory ran out, and the world stays as it was.
pub returns-in-Some : goal.returns-in-Some
returns-in-Some c = look_happens c.args.self.now c.args.number c.args.view c.args.query.now c.in-Some.site.now
    c.look_at.result c.in-Some.ensures c.look_at.ensures
