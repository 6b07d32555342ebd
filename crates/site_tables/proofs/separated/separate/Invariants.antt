use Rattle.std.proofs.Common.{map, take}
use Rattle.site_tables.specs.Separated.{separated, IsWritten}
use Rattle.site_tables.proofs.separated.separate.Given as goal

-- The records of the heading and of the rows so far were written.
abbrev pub invariant-loop-row : goal.invariant-loop-row
invariant-loop-row l = IsWritten l.writer (separated (map (λ cell. cell.now) l.heading) (take l.row-index l.rows))
