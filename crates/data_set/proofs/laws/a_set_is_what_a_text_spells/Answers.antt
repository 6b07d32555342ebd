use Rattle.data_set.proofs.WrittenLaws.{written as written_again}
use Rattle.data_set.proofs.Kept.{spelled_set}
use Rattle.data_set.proofs.laws.a_set_is_what_a_text_spells.Goals as goal

-- The elements of a set are read again from what is written of them.
pub returns-clause-written : goal.returns-clause-written
returns-clause-written c = written_again

-- What was read ascends, and its lengths fit their headers.
pub returns-clause-read : goal.returns-clause-read
returns-clause-read c = spelled_set
