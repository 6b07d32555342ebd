use Rattle.std.proofs.Common.{refl}
use Rattle.sqlite_wal.specs.Format.{part}
use Rattle.wal_tail.proofs.header.head_of.Goals as goal

-- The header are the first 32 bytes.
pub returns-clause-head : goal.returns-clause-head
unfolding part
returns-clause-head c = refl
