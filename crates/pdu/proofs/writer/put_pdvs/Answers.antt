use Rattle.std.proofs.Common.{arith}
use Rattle.pdu.specs.Spelling.{pdv_text}
use Rattle.pdu.proofs.Lists.{text_at}
use Rattle.pdu.proofs.writer.put_pdvs.Goals as goal

-- A value is no longer than the body.
pub put_pdv-requires : goal.put_pdv-requires
put_pdv-requires c = omega (
  arith,
  c.requires,
  text_at pdv_text c.args.values.now c.loop-value.value-index
      c.value-item.result c.loop-value-test.true c.value-item.is,
)
