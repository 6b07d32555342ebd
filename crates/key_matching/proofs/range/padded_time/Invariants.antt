use Rattle.std.proofs.Common.{◌≡◌, ◌++◌, take, drop}
use Rattle.key_matching.specs.Range.{midnight}
use Rattle.key_matching.proofs.range.padded_time.Given as goal

-- The bytes of the time so far stand in front, and those of midnight in the other places.
abbrev pub invariant-loop-i : goal.invariant-loop-i
invariant-loop-i l = l.padded ≡ take l.i l.text ++ drop l.i midnight
