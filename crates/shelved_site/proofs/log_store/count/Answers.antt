use Rattle.std.proofs.Common.{arith, sym, ◌∙◌}
use Rattle.op_log.specs.Records.{head_in}
use Rattle.op_log.proofs.TestedBodies.{take_more}
use Rattle.shelved_site.proofs.Counting.{counted_none, counted_one}
use Rattle.shelved_site.proofs.log_store.count.Goals.{then-is_of_kind, else-is_of_kind}
use Rattle.shelved_site.proofs.log_store.count.Goals as goal

-- One more came, with the kind or without.
pub loop-index-preserved : goal.loop-index-preserved
loop-index-preserved g c =
    let was = c.loop-index.invariant in
    let heads = c.args.log.now.places in
    let h = head_in c.in-Some.record in
    let more = take_more heads c.loop-index.index h c.in-Some.ensures.found in
    elim c.if-is_of_kind.branch [
      | then-is_of_kind w ↦ record {
        counted = w.count-is ∙ counted_one c.args.kind c.loop-index.count _ _ h was.counted more (sym c.is_of_kind.ensures ∙ w.if-is_of_kind.true);
        few = omega (arith, w.count-is, was.few);
      }
      | else-is_of_kind w ↦ record {
        counted = w.count-is ∙ counted_none c.args.kind c.loop-index.count _ _ h was.counted more (sym c.is_of_kind.ensures ∙ w.if-is_of_kind.false);
        few = omega (arith, w.count-is, was.few);
      }
    ]
