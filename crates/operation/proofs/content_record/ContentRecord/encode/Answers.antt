use Rattle.std.proofs.Common.{◌≡◌, refl, subst, ap, ◌∙◌, arith}
use Rattle.dictionary.specs.declared.elements.TheConstants.{SOP_CLASS_UID, SOP_INSTANCE_UID}
use Rattle.operation.specs.Parts.{KeptParts, value_at, value_or_empty}
use Rattle.operation.specs.RecordTexts.{AreFit, FitsText}
use Rattle.operation.proofs.content_record.ContentRecord.encode.Goals as goal

-- Class and instance are values, and the numbers are those of the machine.
pub returns-clause-fits : goal.returns-clause-fits
returns-clause-fits c =
    let one = c.behind-self.view_is ∙ c.deref.ensures in
    let two = c.behind-self-2.view_is ∙ c.deref-2.ensures in
    let three = c.behind-self-3.view_is ∙ c.deref-3.ensures in
    subst FitsText c.self.view_is record {
      size = omega (arith, ap (λ (k : KeptParts). k.size) two, c.number_of.ensures.same, c.number_of.ensures.fits);
      values = subst (λ (k : KeptParts). AreFit k.values) three c.in_ok-put_values.ensures.fit;
      named = record {
        class = subst (λ (k : KeptParts). value_or_empty (value_at SOP_CLASS_UID k.values) ≡ k.class) one refl;
        instance = subst (λ (k : KeptParts). value_or_empty (value_at SOP_INSTANCE_UID k.values) ≡ k.instance) one refl;
        long = c.see_bytes.ensures.long;
        bytes = c.see_bytes.ensures.bytes;
      };
    }
