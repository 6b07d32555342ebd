use Rattle.exchange.proofs.Said.{round_says_frames}
use Rattle.exchange.proofs.laws.what_a_round_says_is_a_frame.Goals as goal

-- A set's digests ascend, and so do the first bytes that are compared; what is kept of either ascends too.
pub returns : goal.returns
returns c = round_says_frames
