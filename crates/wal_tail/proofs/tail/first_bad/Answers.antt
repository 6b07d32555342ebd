use Rattle.std.proofs.Common.{ap, ◌∙◌, arith, rules}
use Rattle.sqlite_wal.specs.Format.{stored_sum}
use Rattle.wal_tail.proofs.Tails.{bad_here, first_place, next_inside, none_bad, sum_is, valid_here, valid_more}
use Rattle.wal_tail.proofs.tail.first_bad.Goals as goal

-- No frame was read yet.
pub loop-at-init : goal.loop-at-init
loop-at-init c = record {
  place = first_place c.args.log.now;
  inside = c.requires;
  far = omega arith;
  sum = c.sum_at-sum.ensures ∙ ap (λ h. stored_sum h 24) c.head_of-head.ensures.head;
  before = λ i low. absurd (omega (arith, low));
}

-- No frame more is whole.
pub returns-in_default-clause-none : goal.returns-in_default-clause-none
returns-in_default-clause-none c is =
    let was = c.loop-at.invariant in
    none_bad c.args.log.now c.loop-at.at c.loop-at.begin was.place was.before (search rules)

-- This one is not valid.
pub returns-then-not-is_frame-clause-some : goal.returns-then-not-is_frame-clause-some
returns-then-not-is_frame-clause-some c =
    let was = c.loop-at.invariant in
    bad_here c.args.log.now c.loop-at.at c.loop-at.begin c.in-Some.next.now was.place (search rules) c.head_of-head.result.now
    c.loop-at.sum c.head_of-head.ensures.head was.sum was.before (λ valid. search (valid, rules)) c.is_own.result
    c.is_own.ensures

-- This one is valid too.
pub loop-at-preserved : goal.loop-at-preserved
loop-at-preserved c =
    let was = c.loop-at.invariant in
    let log = c.args.log.now in
    let from : _ = c.in-Some.ensures.whole in
    record {
      place = next_inside log c.loop-at.at c.loop-at.begin c.in-Some.next.now was.place from;
      inside = omega (arith, from.within, from.long);
      far = omega (arith, was.far, from.long);
      sum = sum_is log c.loop-at.at c.loop-at.begin c.in-Some.next.now was.place from _ c.sum_at-sum-in-loop-at.ensures;
      before = valid_more log c.loop-at.at was.before
          (valid_here log c.loop-at.at c.loop-at.begin c.in-Some.next.now was.place from c.head_of-head.result.now
          c.loop-at.sum c.head_of-head.ensures.head was.sum (search rules));
    }
