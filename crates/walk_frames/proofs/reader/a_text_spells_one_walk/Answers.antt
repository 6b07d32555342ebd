use Rattle.walk_frames.proofs.WalkLaws.{walk_once}
use Rattle.walk_frames.proofs.reader.a_text_spells_one_walk.Goals as goal

-- One text is read as one walk.
pub returns : goal.returns
returns c = walk_once
