use Rattle.archive_model.proofs.RowLaws.{same_rows}
use Rattle.archive_model.proofs.record_laws.a_row_needs_no_bytes.Goals as goal

-- A row is made of values that are kept and of attributes.
pub returns : goal.returns
returns c = same_rows
