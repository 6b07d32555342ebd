use Rattle.std.proofs.Common.{refl}
use Rattle.association_worker.proofs.PortLaws.{finds_as}
use Rattle.association_worker.proofs.site_port.SitePortPort.find.Goals as goal

-- What the site answers is what a port may answer.
pub returns-clause-finds : goal.returns-clause-finds
returns-clause-finds c =
    finds_as c.args.self.now _
    (record { called = c.args.called.now; view = c.args.view; query = c.args.query.now }) c.rows.result refl
    c.rows.ensures.found c.rows.ensures.fault
