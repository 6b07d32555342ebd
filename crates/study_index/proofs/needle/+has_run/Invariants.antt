use Rattle.std.proofs.Common.{length}
use Rattle.study_index.proofs.needle.+has_run.Given as goal

-- With each call one byte fewer is left in which the run may stand.
abbrev pub decreases-has_run : goal.decreases-has_run
decreases-has_run l = length l.text.now
