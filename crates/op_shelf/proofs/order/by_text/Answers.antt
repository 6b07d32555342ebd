use Rattle.std.proofs.Common.{◌∙◌, arith}
use Rattle.op_shelf.proofs.Digits.{in_digits}
use Rattle.op_shelf.proofs.order.by_text.Goals as goal

-- The digits of bytes have the order of the bytes.
pub returns : goal.returns
returns c =
    c.by_bytes.ensures ∙ in_digits c.args.a.now c.args.b.now (λ i. omega (arith, c.type_inv.a i))
    (λ i. omega (arith, c.type_inv.b i))
