use Rattle.std.proofs.Common.{◌≡◌, ◌≤◌, ◌+◌, ◌==◌, length, take}
use Rattle.std.specs.List.{suffix_len}
use Rattle.site_script.proofs.word.uid_in.Given as goal

-- What was dropped so far are 00 bytes at the end.
abbrev pub invariant-loop-end : goal.invariant-loop-end
invariant-loop-end l = (l.end ≤ length l.bytes) × (l.end + suffix_len (λ b. b == 0) l.bytes ≡ length l.bytes +
    suffix_len (λ b. b == 0) (take l.end l.bytes))

-- With each turn one byte fewer is kept.
abbrev pub decreases-loop-end : goal.decreases-loop-end
decreases-loop-end l = l.end
