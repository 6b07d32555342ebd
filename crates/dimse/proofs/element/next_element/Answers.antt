use Rattle.std.proofs.Common.{arith}
use Rattle.dimse.proofs.ElementLaws.{element_found}
use Rattle.dimse.proofs.element.next_element.Goals as goal

-- What is read of bytes is spelled by them.
pub returns-clause-found : goal.returns-clause-found
returns-clause-found c = element_found c.args.previous c.args.text.now c.element_of.result
    (λ i. omega (arith, c.type_inv.text i)) c.element_of.ensures
