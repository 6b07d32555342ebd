use Rattle.std.proofs.Common.{◌≡◌, ◌-◌, drop}
use Rattle.walk_frames.specs.Walks.{all_pass, is_earlier}
use Rattle.walk_frames.proofs.walk.stand_apart.Given as goal

-- All entries stand apart exactly where those from the last one on do.
abbrev pub invariant-loop-at : goal.invariant-loop-at
invariant-loop-at l = all_pass is_earlier (drop (l.at - 1) l.entries) ≡ all_pass is_earlier l.entries
