use Rattle.dimse.proofs.SoundLaws.{response_lawful}
use Rattle.dimse.proofs.laws.a_response_can_be_written.Goals as goal

-- Its UIDs are those of the request, and it has the ID that a response needs.
pub returns-clause-lawful : goal.returns-clause-lawful
returns-clause-lawful c = response_lawful
