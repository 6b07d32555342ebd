use Rattle.std.proofs.Common.{List, length, ap, ◌∙◌, ℕ, arith, length-append}
use Rattle.operation.specs.KeyValues.{bytes_of, values_at}
use Rattle.operation.proofs.KeyValueLaws.{bytes_put, values_put}
use Rattle.operation.proofs.key_values.put.Goals as goal

-- One place more has the bytes that the text has more.
pub returns-clause-filled : goal.returns-clause-filled
returns-clause-filled c =
    let text = c.args.text.now.items in
    let value = c.args.value.now in
    let one_place = ap bytes_of c.in_ok-push.ensures.items in
    let one_value = ap length c.in_ok-extend_from_slice.ensures.items in
    let more = bytes_put c.args.places.now.items c.args.tag (length value) in
    omega (arith, one_place, more, one_value, length-append text value, c.requires.filled)

-- The value stands behind the text that the other places fill, so their values are what they were.
pub returns-clause-added : goal.returns-clause-added
returns-clause-added c =
    ap (λ (places : List (ℕ × ℕ)). values_at places c.extend_from_slice.new.self.items) c.in_ok-push.ensures.items
    ∙ ap (values_at _) c.in_ok-extend_from_slice.ensures.items
    ∙ values_put c.args.places.now.items c.args.text.now.items c.args.tag c.args.value.now c.requires.filled
