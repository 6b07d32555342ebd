use Rattle.exchange_frames.proofs.Outcomes.{one_text}
use Rattle.exchange_frames.proofs.reader.a_text_spells_one_frame.Goals as goal

-- The first byte is the kind, and what stands behind five bytes is the body.
pub returns : goal.returns
returns c = one_text
