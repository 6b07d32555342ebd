use Rattle.site_state.proofs.Wholes.{records_kept, digests_kept, rows_kept, flagged_kept, counts_kept, top_kept}
use Rattle.site_state.proofs.laws.records_say_the_same.Goals as goal

-- What stands for an operation has its record.
pub returns-clause-records : goal.returns-clause-records
returns-clause-records c = records_kept

-- It lies under its digest.
pub returns-clause-digests : goal.returns-clause-digests
returns-clause-digests c = digests_kept

-- Rows see no byte of a data set.
pub returns-clause-rows : goal.returns-clause-rows
returns-clause-rows c = rows_kept

-- Nor does what is flagged.
pub returns-clause-flagged : goal.returns-clause-flagged
returns-clause-flagged c = flagged_kept

-- As many records are of contents, and as many of corrections.
pub returns-clause-counts : goal.returns-clause-counts
returns-clause-counts c = counts_kept

-- All is kept of a correction.
pub returns-clause-top_counter : goal.returns-clause-top_counter
returns-clause-top_counter c = top_kept
