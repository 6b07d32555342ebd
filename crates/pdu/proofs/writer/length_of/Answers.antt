use Rattle.std.proofs.Common.{arith}
use Rattle.pdu.specs.Spelling.{pdv_text}
use Rattle.pdu.proofs.Lists.{text_at}
use Rattle.pdu.proofs.writer.length_of.Goals as goal

-- A fragment is no longer than the body.
pub overflow_cast-size : goal.overflow_cast-size
overflow_cast-size c = omega (
  arith,
  c.requires,
  c.len.ensures.value,
  text_at pdv_text c.args.values.now
      c.loop-value.value-index c.value-item.result c.loop-value-test.true c.value-item.is,
)

-- Its header and it are no longer than the body.
pub overflow_add-size : goal.overflow_add-size
overflow_add-size c = omega (
  arith,
  c.requires,
  c.len.ensures.value,
  text_at pdv_text c.args.values.now
      c.loop-value.value-index c.value-item.result c.loop-value-test.true c.value-item.is,
)

-- The values so far and this one are no longer than the body.
pub overflow_add-size-in-loop-value : goal.overflow_add-size-in-loop-value
overflow_add-size-in-loop-value c = omega (
  arith,
  c.requires,
  c.loop-value.invariant,
  c.len.ensures.value,
  text_at
      pdv_text c.args.values.now c.loop-value.value-index c.value-item.result c.loop-value-test.true c.value-item.is,
)
