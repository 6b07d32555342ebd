use Rattle.std.proofs.Common.{◌≡◌, ◌≤◌, ◌+◌, ◌*◌, drop, length}
use Rattle.std.specs.List.{filter_map}
use Rattle.operation.specs.Contents.{tagged}
use Rattle.operation.specs.KeyValues.{bytes_in}
use Rattle.operation.proofs.key_values.room_for.Given as goal

-- The values and bytes so far, with those of the tags left, are those of all tags; and no value has 2^32 bytes.
abbrev pub invariant-loop-tag : goal.invariant-loop-tag
invariant-loop-tag l =
    (l.values + length (filter_map (λ tag. tagged tag l.elements) (drop l.tag-index l.tags))
    ≡ length (filter_map (λ tag. tagged tag l.elements) l.tags))
    × (l.bytes + bytes_in (filter_map (λ tag. tagged tag l.elements) (drop l.tag-index l.tags))
    ≡ bytes_in (filter_map (λ tag. tagged tag l.elements) l.tags))
    × (l.values ≤ l.tag-index)
    × (l.bytes ≤ 4294967295 * l.tag-index)
