use Rattle.std.proofs.Common.{length}
use Rattle.study_index.proofs.marks.+marks_behind.Given as goal

-- With each call one byte fewer is left.
abbrev pub decreases-marks_behind : goal.decreases-marks_behind
decreases-marks_behind l = length l.text.now
