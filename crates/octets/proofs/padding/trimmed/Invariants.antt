use Rattle.std.proofs.Common.{◌≡◌, ◌≤◌, ◌+◌, ◌-◌, length, drop}
use Rattle.std.specs.List.{prefix_len}
use Rattle.octets.specs.Padding.{is_space}
use Rattle.octets.proofs.padding.trimmed.Given as goal

-- What was dropped so far is spaces.
abbrev pub invariant-loop-start : goal.invariant-loop-start
invariant-loop-start l = (l.start ≤ length l.kept) × (l.start + prefix_len is_space (drop l.start l.kept) ≡ prefix_len
    is_space l.kept)

-- With each turn one byte fewer is left behind the spaces.
abbrev pub decreases-loop-start : goal.decreases-loop-start
decreases-loop-start l = length l.kept - l.start
