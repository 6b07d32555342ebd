use Rattle.pdu.proofs.Again.{spells_before}
use Rattle.pdu.proofs.writer.is_read_again.Goals as goal

-- The text that is written spells the PDU, whatever follows it.
pub returns : goal.returns
returns c = spells_before
