use Rattle.data_set.proofs.Reading.{spelled_in}
use Rattle.data_set.proofs.laws.what_is_spelled_is_computed.Goals as goal

-- One step of the reader after another gives what the grammar has, and each leaves a shorter text.
pub returns : goal.returns
returns c = spelled_in
