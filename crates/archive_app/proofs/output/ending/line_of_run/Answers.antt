use Rattle.std.proofs.Common.{ap, sym, codes}
use Rattle.association_run.specs.declared.fault.RunFault.{RunFault}
use Rattle.association_run.specs.Fault.{number_of}
use Rattle.archive_app.specs.Ending.{fault_line}
use Rattle.archive_app.proofs.output.ending.line_of_run.Goals as goal

-- The reader failed: the line has its number.
pub returns-in-Read : goal.returns-in-Read
returns-in-Read c = ap (λ (fault : RunFault). fault_line (codes "run") (number_of fault)) (sym c.in-Read.is)

-- The writer failed: the line has its number.
pub returns-in-Write : goal.returns-in-Write
returns-in-Write c = ap (λ (fault : RunFault). fault_line (codes "run") (number_of fault)) (sym c.in-Write.is)

-- Memory ran out: the line has its number.
pub returns-in-Memory : goal.returns-in-Memory
returns-in-Memory c = ap (λ (fault : RunFault). fault_line (codes "run") (number_of fault)) (sym c.in-Memory.is)

-- There were too many reads: the line has its number.
pub returns-in-Turns : goal.returns-in-Turns
returns-in-Turns c = ap (λ (fault : RunFault). fault_line (codes "run") (number_of fault)) (sym c.in-Turns.is)
