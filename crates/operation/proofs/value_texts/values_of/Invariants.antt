use Rattle.std.proofs.Common.{◌≡◌, List, ℕ, length}
use Rattle.operation.specs.KeyValues.{bytes_of, values_at}
use Rattle.operation.specs.RecordTexts.{AreFit, IsLeft, values_text}
use Rattle.operation.proofs.value_texts.values_of.Given as goal

-- The values so far fill their text, and the text that is left has the others of whatever values it had.
abbrev pub invariant-values : goal.invariant-values
invariant-values l =
    (bytes_of l.places.items ≡ length l.bytes.items)
    × ((values : List (ℕ × List ℕ)) → AreFit values → l.text ≡ values_text values
    → IsLeft values (values_at l.places.items l.bytes.items) l.rest)

-- Each has a byte at least.
abbrev pub decreases-values : goal.decreases-values
decreases-values l = length l.rest
