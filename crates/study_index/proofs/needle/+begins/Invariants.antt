use Rattle.std.proofs.Common.{length}
use Rattle.study_index.proofs.needle.+begins.Given as goal

-- With each call one byte fewer is left to compare.
abbrev pub decreases-begins : goal.decreases-begins
decreases-begins l = length l.run.now
