use Rattle.std.proofs.Common.{arith}
use Rattle.data_set.proofs.HeaderLaws.{front_found}
use Rattle.data_set.proofs.header.front_of.Goals as goal

-- The header that was read of the bytes is spelled by them.
pub returns-clause-stands : goal.returns-clause-stands
returns-clause-stands c = front_found c.args.syntax c.args.previous c.args.text.now c.front_read.result
    (λ i. omega (arith, c.type_inv.text i)) c.front_read.ensures.exact
