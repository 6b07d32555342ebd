use Rattle.std.proofs.Common.{length}
use Rattle.walk_frames.proofs.writer.+put_digits.Given as goal

-- Two digits fewer are left.
abbrev pub decreases-put_digits : goal.decreases-put_digits
decreases-put_digits l = length l.digits.now
