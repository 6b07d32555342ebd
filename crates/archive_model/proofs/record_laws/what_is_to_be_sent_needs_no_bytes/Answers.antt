use Rattle.archive_model.proofs.GetLaws.{same_prepared}
use Rattle.archive_model.proofs.record_laws.what_is_to_be_sent_needs_no_bytes.Goals as goal

-- What is selected is kept, and a change is made of values and of corrections.
pub returns : goal.returns
returns c = same_prepared
