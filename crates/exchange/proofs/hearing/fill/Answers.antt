use Rattle.std.proofs.Common.{◌∙◌, take, drop, arith}
use Rattle.std.proofs.Math.Seq.{take-add}
use Rattle.std.proofs.KnownBytes.{Consumes-trans}
use Rattle.exchange.proofs.hearing.fill.Goals as goal

-- What was read stands behind what was read before.
pub loop-filled-preserved : goal.loop-filled-preserved
loop-filled-preserved g c =
    let f = c.loop-filled.filled in
    let n = c.in-Ok.count in
    let new = c.read_behind.new.buffer in
    let told = c.in-Ok.ensures in
    let so = c.loop-filled.invariant in
    record {
      within = omega (arith, told.count, told.long);
      long = told.long ∙ so.long;
      so_far = rw (take-add f n new) (rw told.front (Consumes-trans _ _ _ (take f c.loop-filled.buffer)
          (take n (drop f new)) so.so_far told.read));
      many = omega (arith, so.many, c.if-reads-eq0.false, c.in-Ok.count-test);
      none_failed = told.counted ∙ so.none_failed;
    }
