use Rattle.std.proofs.Common.{refl}
use Rattle.walk_frames.specs.Spelling.{entry_text, walk_text}
use Rattle.walk_frames.proofs.laws.a_walk_is_spelled_so.Goals as goal

-- It computes.
pub returns : goal.returns
unfolding walk_text entry_text
returns c = refl
