use Rattle.operation.proofs.OutcomeLaws.{spelled_or_fault, one_fault}
use Rattle.operation.proofs.laws.a_text_has_one_outcome.Goals as goal

-- What an operation spells is read as that operation, so it has no fault.
pub returns-clause-spelled : goal.returns-clause-spelled
returns-clause-spelled c = spelled_or_fault

-- Both faults are readings of one text, and a text has one reading.
pub returns-clause-fault : goal.returns-clause-fault
returns-clause-fault c = one_fault
