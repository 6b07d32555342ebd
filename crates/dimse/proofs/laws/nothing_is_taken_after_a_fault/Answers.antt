use Rattle.dimse.proofs.RunLaws.{refused_after}
use Rattle.dimse.proofs.laws.nothing_is_taken_after_a_fault.Goals as goal

-- A failed assembler has the fault Failed at each fragment.
pub returns : goal.returns
returns c = λ failed end pdvs answers is run. refused_after failed end pdvs answers is run
