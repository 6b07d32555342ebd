use Rattle.std.proofs.Common.{arith, add-one, get_or}
use Rattle.std.proofs.lemmas.Bool.{ne_eqb}
use Rattle.key_matching.proofs.WildCards.{starless_more}
use Rattle.key_matching.proofs.wild_card.run_length.Goals as goal

-- Neither the bytes so far nor this one is a `*`.
pub loop-n-preserved : goal.loop-n-preserved
loop-n-preserved c = record {
  within = omega arith;
  starless = rw add-one (starless_more c.loop-n.n c.args.key.now (omega arith)
      (ne_eqb (get_or c.args.key.now c.loop-n.n 0) 42 c.if-key-n-ne42.true) c.loop-n.invariant.starless);
}
