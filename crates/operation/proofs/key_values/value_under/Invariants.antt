use Rattle.std.proofs.Common.{◌≡◌, ◌≤◌, drop, length}
use Rattle.operation.specs.KeyValues.{bytes_of, values_at}
use Rattle.operation.specs.Parts.{value_at}
use Rattle.operation.proofs.key_values.value_under.Given as goal

-- No value so far has the tag, so the tag's value is among those left, which stand in the rest of the text.
abbrev pub invariant-loop-place : goal.invariant-loop-place
invariant-loop-place l =
    (value_at l.tag (values_at (drop l.place-index l.places) l.rest) ≡ value_at l.tag (values_at l.places l.text))
    × (bytes_of (drop l.place-index l.places) ≤ length l.rest)
