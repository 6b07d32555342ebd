use Rattle.records.proofs.StandInLaws.{op_has_hash, op_has_record, op_is_one, op_is_of_record, op_itself}
use Rattle.records.proofs.laws.a_stand_in_is_the_operation.Goals as goal

-- All that is kept stands in the record.
pub returns-clause-record : goal.returns-clause-record
returns-clause-record c = op_has_record

-- The bytes that are found have the hash of the operation.
pub returns-clause-hash : goal.returns-clause-hash
returns-clause-hash c = op_has_hash

-- What has the hash is the operation, where no two have one.
pub returns-clause-one : goal.returns-clause-one
returns-clause-one c = op_is_one

pub returns-clause-alone : goal.returns-clause-alone
returns-clause-alone c = op_is_of_record

pub returns-clause-itself : goal.returns-clause-itself
returns-clause-itself c = op_itself
