use Rattle.std.proofs.Common.{refl}
use Rattle.association_worker.proofs.PortLaws.{gets_as}
use Rattle.association_worker.proofs.site_port.SitePortPort.get.Goals as goal

-- What the site lists is what a port may answer.
pub returns-clause-gets : goal.returns-clause-gets
returns-clause-gets c =
    gets_as c.args.self.now _ (record { view = c.args.view; selection = c.args.selection.now })
    c.listed.result refl c.listed.ensures.listed c.listed.ensures.fault
