use Rattle.pdu.proofs.Writable.{writable, no_longer}
use Rattle.pdu.proofs.reader.what_is_spelled_is_writable.Goals as goal

-- Each part of a value that bytes spell fits its length.
pub returns-clause-lawful : goal.returns-clause-lawful
returns-clause-lawful c = writable

-- What is written leaves out what was passed over.
pub returns-clause-no_longer : goal.returns-clause-no_longer
returns-clause-no_longer c = no_longer
