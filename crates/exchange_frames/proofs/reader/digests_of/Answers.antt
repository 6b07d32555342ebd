use Rattle.std.proofs.Common.{length, ap, arith}
use Rattle.std.proofs.lemmas.List.{length-drop}
use Rattle.exchange_frames.proofs.Lists.{goes_on, goes_end}
use Rattle.exchange_frames.proofs.reader.digests_of.Goals as goal

-- One more digest is in hand, and the text behind it is left.
pub loop-preserved : goal.loop-preserved
loop-preserved c = record {
  fits = omega (
    arith,
    ap length c.split_at.ensures.back,
    length-drop 32 c.loop.rest.now,
    c.loop.invariant.fits,
    c.loop-test.true,
  );
  so_far = rw (c.in_ok-push.ensures.items, c.digest_of.ensures, c.split_at.ensures.front, c.split_at.ensures.back)
      (goes_on c.loop.digests.items c.args.count c.loop.counter c.loop.rest.now _ c.loop-test.true
      c.loop.invariant.so_far);
}

-- Nothing is left to be cut.
pub returns : goal.returns
returns c = goes_end c.loop.digests.items c.args.count c.loop.counter c.loop.rest.now _ c.loop-test.false
    c.loop.invariant.so_far
