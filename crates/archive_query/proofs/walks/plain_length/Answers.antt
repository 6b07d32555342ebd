use Rattle.std.proofs.Common.{arith, sym, ◌∙◌}
use Rattle.archive_query.proofs.TextLeads.{plain_more}
use Rattle.archive_query.proofs.walks.plain_length.Goals as goal

-- One byte more is no wild card.
pub loop-n-preserved : goal.loop-n-preserved
loop-n-preserved c = (
  omega arith,
  plain_more c.args.key.now c.loop-n.n c.loop-n-test.true
      c.loop-n.invariant.1 (sym c.is_plain.ensures ∙ c.if-not-is_plain.false),
)
