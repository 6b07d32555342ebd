use Rattle.std.proofs.Common.{ap, sym, codes}
use Rattle.archive_server.specs.declared.fault.NetFault.{NetFault}
use Rattle.archive_server.specs.Fault.{number_of}
use Rattle.archive_app.specs.Ending.{fault_line}
use Rattle.archive_app.proofs.output.ending.line_of_net.Goals as goal

-- No listener was made: the line has its number.
pub returns-in-Listen : goal.returns-in-Listen
returns-in-Listen c = ap (λ (fault : NetFault). fault_line (codes "net") (number_of fault)) (sym c.in-Listen.is)

-- No connection was accepted: the line has its number.
pub returns-in-Accept : goal.returns-in-Accept
returns-in-Accept c = ap (λ (fault : NetFault). fault_line (codes "net") (number_of fault)) (sym c.in-Accept.is)

-- No peer was reached: the line has its number.
pub returns-in-Connect : goal.returns-in-Connect
returns-in-Connect c = ap (λ (fault : NetFault). fault_line (codes "net") (number_of fault)) (sym c.in-Connect.is)
