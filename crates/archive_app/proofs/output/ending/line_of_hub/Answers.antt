use Rattle.std.proofs.Common.{ap, sym, codes}
use Rattle.site_hub.specs.declared.fault.HubFault.{HubFault}
use Rattle.site_hub.specs.Fault.{number_of}
use Rattle.archive_app.specs.Ending.{fault_line}
use Rattle.archive_app.proofs.output.ending.line_of_hub.Goals as goal

-- No place was free: the line has its number.
pub returns-in-Busy : goal.returns-in-Busy
returns-in-Busy c = ap (λ (fault : HubFault). fault_line (codes "hub") (number_of fault)) (sym c.in-Busy.is)

-- An equal digest is held: the line has its number.
pub returns-in-Collision : goal.returns-in-Collision
returns-in-Collision c = ap (λ (fault : HubFault). fault_line (codes "hub") (number_of fault)) (sym c.in-Collision.is)

-- Memory ran out: the line has its number.
pub returns-in-Memory : goal.returns-in-Memory
returns-in-Memory c = ap (λ (fault : HubFault). fault_line (codes "hub") (number_of fault)) (sym c.in-Memory.is)

-- The last counter is used: the line has its number.
pub returns-in-StampsSpent : goal.returns-in-StampsSpent
returns-in-StampsSpent c =
    ap (λ (fault : HubFault). fault_line (codes "hub") (number_of fault)) (sym c.in-StampsSpent.is)

-- A pass is missing: the line has its number.
pub returns-in-Torn : goal.returns-in-Torn
returns-in-Torn c = ap (λ (fault : HubFault). fault_line (codes "hub") (number_of fault)) (sym c.in-Torn.is)

-- The operation is not published: the line has its number.
pub returns-in-Pending : goal.returns-in-Pending
returns-in-Pending c = ap (λ (fault : HubFault). fault_line (codes "hub") (number_of fault)) (sym c.in-Pending.is)

-- A part may not be there: the line has its number.
pub returns-in-BadCorrection : goal.returns-in-BadCorrection
returns-in-BadCorrection c =
    ap (λ (fault : HubFault). fault_line (codes "hub") (number_of fault)) (sym c.in-BadCorrection.is)
