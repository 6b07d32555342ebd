use Rattle.walk_frames.proofs.WalkLaws.{walk_again}
use Rattle.walk_frames.proofs.laws.what_is_written_is_read_again.Goals as goal

-- Its count is that of its entries, and each is read again.
pub returns : goal.returns
returns c = walk_again
