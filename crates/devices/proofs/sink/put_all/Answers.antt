use Rattle.std.proofs.Common.{◌≡◌, ◌-◌, take, drop, length, arith, length-drop, ◌∙◌}
use Rattle.std.proofs.Math.Seq.{take-add}
use Rattle.std.proofs.lemmas.List.{length-take, take_all}
use Rattle.devices.proofs.Fronts.{further}
use Rattle.devices.proofs.sink.put_all.Goals as goal

-- What was put goes behind what was put before, and nothing failed.
pub loop-done-preserved : goal.loop-done-preserved
loop-done-preserved g c =
    let bytes = c.args.bytes.now in
    let done = c.loop-done.done in
    let n = c.in_ok-done.field-0 in
    let told = c.in_ok-done.ensures in
    let whole : take (length bytes - done) (drop done bytes) ≡ drop done bytes = take_all (length bytes - done)
    (drop done bytes) (omega (arith, length-drop done bytes)) in
    record {
      within = omega (arith, told.bound, length-take (length bytes - done) (drop done bytes), length-drop done bytes);
      so_far = rw (take-add done n bytes) (further _ (g.W.Sink.contents c.loop-done.sink) _ (take done bytes)
          (take n (drop done bytes)) c.loop-done.invariant.so_far (rw whole at told.bytes));
      none_failed = told.counted ∙ c.loop-done.invariant.none_failed;
    }
