use Rattle.shelved_site.proofs.RecordLaws.{their_records, same_reports, same_next, same_known}
use Rattle.shelved_site.proofs.laws.records_tell_of_their_operations.Goals as goal

-- What stands for an operation has its digest.
pub returns-clause-holds : goal.returns-clause-holds
returns-clause-holds c = their_records

-- No line of a report sees a byte of a data set.
pub returns-clause-reports : goal.returns-clause-reports
returns-clause-reports c = same_reports

-- All is kept of a correction.
pub returns-clause-followed : goal.returns-clause-followed
returns-clause-followed c = same_next

-- What a target is compared with is kept of a content.
pub returns-clause-knows : goal.returns-clause-knows
returns-clause-knows c = same_known
