use Rattle.std.proofs.Common.{◌≡◌, sym, ◌∙◌, true≢false}
use Rattle.operation.specs.KeyValues.{values_at}
use Rattle.operation.proofs.KeyValueLaws.{one_text}
use Rattle.operation.proofs.key_values.KeyValues.equals.Goals as goal

-- The places are the same, so equal texts have equal values; and values that fill their texts have one text.
pub returns-then-same_places : goal.returns-then-same_places
returns-then-same_places c =
    let places : c.self.inside.places ≡ c.other.inside.places =
    sym c.as_slice.ensures ∙ c.same_places.ensures.0 c.if-same_places.true ∙ c.as_slice-2.ensures
    in (
      λ is.
          let text : c.self.inside.text ≡ c.other.inside.text = c.equals.ensures.0 is in
          sym c.self.view_is ∙ (λ i. values_at (places i) (text i)) ∙ c.other.view_is,
      λ e.
          let one = one_text _ _ _ _ c.self.invariant c.other.invariant (c.self.view_is ∙ e ∙ sym c.other.view_is) in
          c.equals.ensures.1 one.1,
    )

-- The places differ, and values that fill their texts have one list of places.
pub returns-else-same_places : goal.returns-else-same_places
returns-else-same_places c = (
  λ is. absurd (true≢false (sym is ∙ c.if-same_places.false)),
  λ e.
      let one = one_text _ _ _ _ c.self.invariant c.other.invariant (c.self.view_is ∙ e ∙ sym c.other.view_is) in
      c.same_places.ensures.1 (c.as_slice.ensures ∙ one.0 ∙ sym c.as_slice-2.ensures),
)
