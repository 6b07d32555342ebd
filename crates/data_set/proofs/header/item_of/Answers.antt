use Rattle.std.proofs.Common.{arith}
use Rattle.data_set.proofs.HeaderLaws.{item_found}
use Rattle.data_set.proofs.header.item_of.Goals as goal

-- The header that was read of the bytes is spelled by them.
pub returns-clause-stands : goal.returns-clause-stands
returns-clause-stands c = item_found c.args.depth c.args.text.now c.item_read.result
    (λ i. omega (arith, c.type_inv.text i)) c.item_read.ensures.exact
