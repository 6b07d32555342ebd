use Rattle.std.proofs.Common.{refl, ◌∙◌}
use Rattle.sqlite_wal.specs.Format.{part}
use Rattle.wal_tail.proofs.frames.is_own.Goals as goal

-- The eight bytes are those of the definition.
pub returns : goal.returns
unfolding part
returns c = c.eq.ensures ∙ refl
