use Rattle.walk_frames.proofs.Order.{all_apart}
use Rattle.walk_frames.proofs.laws.none_lies_within_another.Goals as goal

-- The first digit in which two neighbours differ parts each earlier entry from each later one.
pub returns : goal.returns
returns c = λ walk is. all_apart walk is.apart
