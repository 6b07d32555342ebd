use Rattle.std.proofs.Common.{refl}
use Rattle.association_worker.proofs.PortLaws.{loads_as, unheld}
use Rattle.association_worker.proofs.site_port.SitePortPort.load.Goals as goal

-- What the site loads is what a port may load.
pub returns-clause-loads : goal.returns-clause-loads
returns-clause-loads c = loads_as c.args.self.now _ c.args.asked.now c.content.result refl c.content.ensures.loaded
    c.content.ensures.fault

-- Where the shelf is told of, what lies under the digest is of no such record.
pub returns-clause-shelf : goal.returns-clause-shelf
returns-clause-shelf c told = unheld c.args.self.now.site c.args.asked.now c.content.ensures.lawful
    (c.content.ensures.shelf told)
