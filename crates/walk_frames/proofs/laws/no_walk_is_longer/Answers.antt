use Rattle.walk_frames.proofs.Lengths.{walk_length}
use Rattle.walk_frames.proofs.laws.no_walk_is_longer.Goals as goal

-- There are no more entries than 4,096, of 546 bytes at most.
pub returns : goal.returns
returns c = walk_length
