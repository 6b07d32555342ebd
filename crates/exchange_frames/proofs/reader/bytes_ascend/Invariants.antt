use Rattle.std.proofs.Common.{◌≡◌, ◌-◌, drop}
use Rattle.std.specs.Ordering.{nat_cmp}
use Rattle.exchange_frames.specs.Spelling.{ascends}
use Rattle.exchange_frames.proofs.reader.bytes_ascend.Given as goal

-- All first bytes ascend exactly where those from the last one on do.
abbrev pub invariant-loop-at : goal.invariant-loop-at
invariant-loop-at l = ascends nat_cmp (drop (l.at - 1) l.bytes) ≡ ascends nat_cmp l.bytes
