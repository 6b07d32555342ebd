use Rattle.std.proofs.Common.{◌≡◌, take, map}
use Rattle.site_tables.specs.Conflicts.{conflict_row}
use Rattle.site_tables.proofs.conflicts.rows_of_conflicts.Given as goal

-- The rows are those of the contents so far.
abbrev pub invariant-loop-flagged : goal.invariant-loop-flagged
invariant-loop-flagged l = l.rows.items ≡ map conflict_row (take l.flagged-index l.found)
