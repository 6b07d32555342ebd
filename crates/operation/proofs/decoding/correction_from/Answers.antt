use Rattle.std.proofs.Common.{◌≡◌, Ok, subst, rules, arith}
use Rattle.operation.specs.Parts.{CorrectionParts}
use Rattle.operation.specs.Reading.{parts_at}
use Rattle.operation.specs.Spelling.{correction_text}
use Rattle.operation.proofs.ReadingLaws.{parts_takes, checked_spelled}
use Rattle.operation.proofs.decoding.correction_from.Goals as goal

-- The parts were taken from the front one after the other, so the text spells them.
pub returns-clause-spelled : goal.returns-clause-spelled
unfolding parts_at
returns-clause-spelled c =
    let made : CorrectionParts = record {
      target = c.in_ok-target.target;
      tag = c.in_ok-tag.tag;
      value =
          c.in_ok-value.value.now;
      stamp = c.in_ok-stamp.stamp;
    } in
    let handed : CorrectionParts = record {
      target = c.in_ok-target.target;
      tag = c.in_ok-tag.tag;
      value =
          c.in_ok-from_slice.field-0;
      stamp = c.in_ok-stamp.stamp;
    } in
    let read : parts_at c.args.text.now ≡ Ok made = search rules in
    let same : made ≡ handed = cc (c.in_ok-from_slice.ensures) in
    let spelled = parts_takes c.args.text.now made (λ i. omega (arith, c.type_inv.text i)) read in
    checked_spelled handed c.args.text.now c.correction_of.result
    (subst (λ (k : CorrectionParts). c.args.text.now ≡ correction_text k) same spelled.0) c.correction_of.ensures
