use Rattle.std.proofs.Common.{◌≡◌, take, map}
use Rattle.site_tables.specs.Corrections.{correction_row}
use Rattle.site_tables.proofs.corrections.rows_of_corrections.Given as goal

-- The rows are those of the corrections so far.
abbrev pub invariant-loop-stamped : goal.invariant-loop-stamped
invariant-loop-stamped l = l.rows.items ≡ map correction_row (take l.stamped-index l.found)
