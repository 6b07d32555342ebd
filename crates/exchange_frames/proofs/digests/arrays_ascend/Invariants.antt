use Rattle.std.proofs.Common.{◌≡◌, ◌-◌, drop}
use Rattle.octets.specs.Texts.{text_cmp}
use Rattle.exchange_frames.specs.Spelling.{ascends}
use Rattle.exchange_frames.proofs.digests.arrays_ascend.Given as goal

-- All digests ascend exactly where those from the last one on do.
abbrev pub invariant-loop-at : goal.invariant-loop-at
invariant-loop-at l = ascends text_cmp (drop (l.at - 1) l.arrays) ≡ ascends text_cmp l.arrays
