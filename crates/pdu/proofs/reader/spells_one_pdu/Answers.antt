use Rattle.pdu.proofs.Fronts.{one_pdu}
use Rattle.pdu.proofs.reader.spells_one_pdu.Goals as goal

-- Both are read at the front, which has one length and one body.
pub returns : goal.returns
returns c = one_pdu
