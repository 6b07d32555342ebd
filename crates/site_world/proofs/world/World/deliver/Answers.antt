use Rattle.std.proofs.Common.{sym}
use Rattle.site_world.proofs.Worlds.{deliver_happens}
use Rattle.site_world.proofs.world.World.deliver.Goals as goal

-- The site does what comes of the message.
pub returns : goal.returns
returns c = deliver_happens c.args.self.now c.react.new.self c.args.number c.in-Some.message.now
    c.in-Some-site.site.now c.in_ok-did.did c.react.result c.in-Some.ensures c.in-Some-site.ensures
    c.in_ok-did.ensures (c.react.ensures c.in-Some-site.site.now (sym c.in-Some-site.ensures))
