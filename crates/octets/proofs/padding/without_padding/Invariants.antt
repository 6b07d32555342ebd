use Rattle.std.proofs.Common.{◌≡◌, ◌≤◌, ◌+◌, length, take}
use Rattle.std.specs.List.{suffix_len}
use Rattle.octets.specs.Padding.{is_padding}
use Rattle.octets.proofs.padding.without_padding.Given as goal

-- What was dropped so far is padding.
abbrev pub invariant-loop-end : goal.invariant-loop-end
invariant-loop-end l = (l.end ≤ length l.bytes) × (l.end + suffix_len is_padding l.bytes ≡ length l.bytes + suffix_len
    is_padding (take l.end l.bytes))

-- With each turn one byte fewer is kept.
abbrev pub decreases-loop-end : goal.decreases-loop-end
decreases-loop-end l = l.end
