use Rattle.op_log.proofs.Told.{own_true, records_true, told_stands}
use Rattle.op_log.proofs.laws.what_is_told_truly_stands.Goals as goal

-- record by record: what was read is of its head, and what was told is true of it
pub returns-clause-stands : goal.returns-clause-stands
returns-clause-stands c = told_stands

-- two operations with one digest would have one head
pub returns-clause-own : goal.returns-clause-own
returns-clause-own c = own_true

-- what has one hash is the one that was recorded
pub returns-clause-records : goal.returns-clause-records
returns-clause-records c = records_true
