use Rattle.std.proofs.Common.{subst, sym}
use Rattle.site_world.specs.Steps.{Comes, told_of_reaction}
use Rattle.site_world.proofs.world.World.react.Goals as goal

-- What is given is sent.
pub returns-in-Gives : goal.returns-in-Gives
returns-in-Gives c m at =
    subst (λ r. Comes c.args.self.now c.args.to (told_of_reaction c.args.self.now m c.args.from c.args.to r)
    c.give.result c.give.new.self) (sym c.in-Gives.is) (c.give.ensures c.args.to)
