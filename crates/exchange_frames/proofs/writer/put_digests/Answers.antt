use Rattle.std.proofs.Common.{List, ℕ, ◌++◌, length, ap, sym, ◌∙◌}
use Rattle.exchange_frames.proofs.Lists.{put_one}
use Rattle.exchange_frames.proofs.writer.put_digests.Goals as goal

-- One digest more is behind the others.
pub loop-digest-preserved : goal.loop-digest-preserved
loop-digest-preserved c =
    let d = c.digest-item.result in
    put_one c.args.digests.now c.loop-digest.digest-index d c.args.out.now.items c.loop-digest.out.items
    c.put_digest.new.out.items c.loop-digest-test.true c.digest-item.is
    (ap length (sym c.as_bytes.ensures) ∙ c.put_digest.ensures.long) c.loop-digest.invariant.1
    (c.in_ok-put_digest.ensures.text ∙ ap (λ (t : List ℕ). c.loop-digest.out.items ++ t) c.as_bytes.ensures)
    c.loop-digest.invariant.2
