use Rattle.std.proofs.Common.{arith, add-one, ◌∙◌, sym}
use Rattle.key_matching.proofs.WildCards.{starless_more, front_more}
use Rattle.key_matching.proofs.wild_card.matching_front.Goals as goal

-- The bytes up to here match, none of them a star, and so does this one.
pub loop-n-preserved : goal.loop-n-preserved
loop-n-preserved c = record {
  within_key = omega arith;
  within_value = omega arith;
  starless = rw add-one (starless_more c.loop-n.n c.args.key.now c.loop-n-test.true
      (c.is_star_at.ensures.other c.if-is_star_at.false c.loop-n-test.true) c.loop-n.invariant.starless);
  rest = rw add-one (c.loop-n.invariant.rest ∙ front_more c.args.folds c.loop-n.n c.args.key.now c.args.value.now
      c.loop-n-test.true c.if-n-value.true (c.is_star_at.ensures.other c.if-is_star_at.false c.loop-n-test.true)
      (sym c.if-not-is_byte_match.ensures));
}
