use Rattle.std.proofs.Common.{Err}
use Rattle.operation.proofs.OutcomeLaws.{only_reading, only_spelled, fault_reading}
use Rattle.operation.proofs.decoding.decode.Goals as goal

-- What is spelled has one reading, and that is what was read.
pub returns-clause-only : goal.returns-clause-only
returns-clause-only c = λ op is e. only_spelled c.args.text c.read_operation.result op c.read_operation.ensures.outcome
    is e

-- A fault of the text is a reading of it, and that is what was read.
pub returns-clause-faulty : goal.returns-clause-faulty
returns-clause-faulty c = λ f has. only_reading c.args.text c.read_operation.result (Err f)
    c.read_operation.ensures.outcome (fault_reading c.args.text f has)
