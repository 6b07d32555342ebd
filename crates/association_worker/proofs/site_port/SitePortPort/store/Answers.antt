use Rattle.operation.specs.declared.op.Op.TheVariants.{Content}
use Rattle.association_worker.proofs.PortLaws.{stores_as}
use Rattle.association_worker.proofs.site_port.SitePortPort.store.Goals as goal

-- What the site takes is what a port may take.
pub returns-clause-stores : goal.returns-clause-stores
returns-clause-stores c =
    let taken = c.take.ensures in
    stores_as c.args.self.now c.take.new.self (Content c.args.content) c.take.result taken.recorded taken.digest
    taken.takes taken.listed taken.collision taken.kept
