use Rattle.site_world.proofs.Worlds.{take_happens}
use Rattle.site_world.proofs.world.World.take.Goals as goal

-- A copy is brought.
pub returns : goal.returns
returns c = take_happens c.args.self.now c.bring.new.self c.args.number c.args.op.now c.in_ok-op.op c.bring.result
    c.in_ok-op.ensures c.bring.ensures
