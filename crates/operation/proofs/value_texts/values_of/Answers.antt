use Rattle.std.proofs.Common.{rules, ◌≡◌, [], None, List, ℕ, subst, sym, ap, ◌∙◌, Some, arith}
use Rattle.std.proofs.lemmas.List.{nil_from_length}
use Rattle.operation.specs.KeyValues.{values_at}
use Rattle.operation.specs.RecordTexts.{IsLeft}
use Rattle.operation.proofs.RecordTextLaws.{front_there, next_left, none_left}
use Rattle.operation.proofs.value_texts.values_of.Goals as goal

-- Where a value is left one stands at the front.
pub returns-in_default : goal.returns-in_default
returns-in_default c values fit is =
    let none : c.front_value.result ≡ None = search rules in
    absurd (front_there values _ c.values.rest.now (c.values.invariant.1 values fit is) (λ e. search rules)
    (λ tag value rest low short front. c.front_value.ensures.none tag value rest low short front none))

-- One more was read.
pub values-preserved : goal.values-preserved
values-preserved c = (
  c.in_ok-put.ensures.filled,
  λ values fit is.
      subst (λ (got : List (ℕ × List ℕ)). IsLeft values got c.in-Some.behind.now) (sym c.in_ok-put.ensures.added)
      (next_left values _ c.in-Some.tag c.in-Some.value.now c.values.rest.now c.in-Some.behind.now c.in-Some.ensures.tag
      c.in-Some.ensures.fits c.in-Some.ensures.parts (c.values.invariant.1 values fit is)),
)

-- All were.
pub returns : goal.returns
returns c values fit is =
    let none : c.values.rest.now ≡ [] =
    nil_from_length c.values.rest.now (grind (arith, c.is_empty.ensures, c.values-test.false)) in
    let read = none_left values (values_at c.values.places.items c.values.bytes.items) c.values.rest.now none
    (c.values.invariant.1 values fit is) in
    let text : c.of.result ≡ c.values.bytes.items = search rules in
    let places : c.of-2.result ≡ c.values.places.items = search rules in
    ap Some ((λ i. values_at (places i) (text i)) ∙ read)
