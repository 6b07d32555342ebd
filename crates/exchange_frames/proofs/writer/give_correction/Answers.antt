use Rattle.std.proofs.Common.{arith}
use Rattle.exchange_frames.proofs.Writings.{short_spelling}
use Rattle.exchange_frames.proofs.writer.give_correction.Goals as goal

-- A spelling is short.
pub with_header-requires : goal.with_header-requires
with_header-requires c = omega (
  arith,
  c.len.ensures,
  short_spelling c.args.op.now c.in_ok-spelled.spelled.items
      c.in_ok-spelled.ensures.spelled c.in_ok-spelled.ensures.lawful,
)
