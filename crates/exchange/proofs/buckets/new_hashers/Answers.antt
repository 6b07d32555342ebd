use Rattle.std.proofs.Common.{arith, length-append, ◌∷◌, []}
use Rattle.exchange.proofs.Hashed.{new_more, new_at}
use Rattle.exchange.proofs.buckets.new_hashers.Goals as goal

-- One hasher more has hashed nothing.
pub loop-preserved : goal.loop-preserved
loop-preserved c = rw c.in_ok-push.ensures.items (record {
  long = omega (arith, length-append c.loop.hashers.items (c.new.result ∷ []), c.loop.invariant.long);
  fresh = new_more _ _ c.loop.invariant.fresh c.new.ensures;
})

-- There is one for each place.
pub returns : goal.returns
returns c = record {
  all = omega (arith, c.loop.invariant.long, c.loop-test.false, c.loop.auto.counter-end);
  each = λ place other lt. new_at _ c.loop.invariant.fresh place
      other (omega (arith, lt, c.loop.invariant.long, c.loop-test.false));
}
