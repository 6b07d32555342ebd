use Rattle.std.proofs.Common.{rules, ◌≡◌, ℕ, List, None, Some, sym, ap, ◌∙◌}
use Rattle.std.proofs.lemmas.Option.{none-some as none_is, same_Some as some_is}
use Rattle.dictionary.specs.declared.elements.TheConstants.{SOP_CLASS_UID, SOP_INSTANCE_UID}
use Rattle.operation.specs.Parts.{value_at, value_or_empty}
use Rattle.operation.specs.RecordParts.{under_digest}
use Rattle.operation.specs.RecordTexts.{values_text}
use Rattle.operation.proofs.RecordTextLaws.{one_digest, same_numbers}
use Rattle.operation.proofs.content_record.ContentRecord.decode.Goals as goal

-- Behind the digest stand transfer syntax and size.
pub returns-in_default-syntax_and_size-clause-found : goal.returns-in_default-syntax_and_size-clause-found
returns-in_default-syntax_and_size-clause-found c r fit note is =
    let none : c.syntax_and_size.result ≡ None = search rules in
    let behind = one_digest c.in-Some.digest.now r.digest c.in-Some.rest.now _ c.in-Some.ensures.long fit.named.long
    (sym c.in-Some.ensures.parts ∙ is) in
    absurd (c.syntax_and_size.ensures.none r.syntax r.size (values_text r.values) behind.1 none)

-- Behind these stand its values.
pub returns-in_default-2-clause-found : goal.returns-in_default-2-clause-found
returns-in_default-2-clause-found c r fit note is =
    let front = c.in-Some-syntax_and_size in
    let behind = one_digest c.in-Some.digest.now r.digest c.in-Some.rest.now _ c.in-Some.ensures.long fit.named.long
    (sym c.in-Some.ensures.parts ∙ is) in
    let numbers = same_numbers front.syntax r.syntax front.size r.size front.rest.now (values_text r.values)
    front.ensures.fits fit.size (sym front.ensures.parts ∙ behind.1) in
    let none : c.in_ok-values.field-0 ≡ None = search rules in
    absurd (none_is r.values (sym none ∙ c.in_ok-values.ensures r.values fit.values numbers.rest_is))

-- And these are its parts.
pub returns-clause-found : goal.returns-clause-found
returns-clause-found c r fit note is =
    let front = c.in-Some-syntax_and_size in
    let behind = one_digest c.in-Some.digest.now r.digest c.in-Some.rest.now _ c.in-Some.ensures.long fit.named.long
    (sym c.in-Some.ensures.parts ∙ is) in
    let numbers = same_numbers front.syntax r.syntax front.size r.size front.rest.now (values_text r.values)
    front.ensures.fits fit.size (sym front.ensures.parts ∙ behind.1) in
    let found : c.in_ok-values.field-0 ≡ Some c.in-Some-2.values = search rules in
    let values = some_is c.in-Some-2.values r.values
    (sym found ∙ c.in_ok-values.ensures r.values fit.values numbers.rest_is) in
    ap Some (ap (under_digest c.of-digest.result) c.in_ok-new.ensures.ok ∙ (λ i. record {
      digest = (c.of-digest.ensures ∙ behind.0) i;
      class = (ap (λ (vs : List (ℕ × List ℕ)). value_or_empty (value_at SOP_CLASS_UID vs)) values ∙ fit.named.class) i;
      instance = (ap (λ (vs : List (ℕ × List ℕ)). value_or_empty (value_at SOP_INSTANCE_UID vs)) values
          ∙ fit.named.instance) i;
      syntax = numbers.syntax_is i;
      size = numbers.size_is i;
      values = values i;
      note = sym note i;
    }))
