use Rattle.std.proofs.Common.{◌≡◌, map, take}
use Rattle.std.specs.String.{string_bytes}
use Rattle.site_tables.specs.Aligned.{widest}
use Rattle.site_tables.proofs.aligned.width_of.Given as goal

-- The widest cell of the rows so far.
abbrev pub invariant-loop-row : goal.invariant-loop-row
invariant-loop-row l = l.most ≡ widest l.column (map (λ row. map string_bytes row.items) (take l.row-index l.rows))
