use Rattle.std.proofs.Common.{◌≡◌, ◌++◌, drop, length}
use Rattle.std.specs.List.{filter_map}
use Rattle.operation.specs.Contents.{tagged}
use Rattle.operation.specs.KeyValues.{bytes_of, values_at}
use Rattle.operation.proofs.key_values.values_under.Given as goal

-- The values so far, with those of the tags left, are the values of all tags; and they fill the text.
abbrev pub invariant-loop-tag : goal.invariant-loop-tag
invariant-loop-tag l =
    (values_at l.places.items l.text.items ++ filter_map (λ tag. tagged tag l.elements) (drop l.tag-index l.tags)
    ≡ filter_map (λ tag. tagged tag l.elements) l.tags)
    × (bytes_of l.places.items ≡ length l.text.items)
