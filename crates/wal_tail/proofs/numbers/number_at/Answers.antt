use Rattle.std.proofs.Common.{refl}
use Rattle.sqlite_wal.specs.Format.{be32}
use Rattle.wal_tail.proofs.numbers.number_at.Goals as goal

-- The four bytes are those of the definition.
pub returns : goal.returns
unfolding be32
returns c = refl
