use Rattle.exchange_frames.proofs.Chunks.{cut_in}
use Rattle.exchange_frames.proofs.digests.Digests.cut.Goals as goal

-- The text has exactly as many as are cut off it.
pub returns : goal.returns
returns c = cut_in c.args.count c.args.text c.requires
