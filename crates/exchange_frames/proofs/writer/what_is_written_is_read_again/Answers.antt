use Rattle.exchange_frames.proofs.Writings.{written_again}
use Rattle.exchange_frames.proofs.writer.what_is_written_is_read_again.Goals as goal

-- The header of a frame has its kind and the length of its body, and no fault.
pub returns : goal.returns
returns c = written_again
