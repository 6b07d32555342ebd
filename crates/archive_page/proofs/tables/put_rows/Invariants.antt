use Rattle.std.proofs.Common.{◌≡◌, ◌++◌, take}
use Rattle.std.specs.List.{flat_map}
use Rattle.archive_page.specs.Tables.{data_row}
use Rattle.archive_page.proofs.tables.put_rows.Given as goal

-- Those so far stand behind what was there.
abbrev pub invariant-loop-row : goal.invariant-loop-row
invariant-loop-row l = l.out.items ≡ l.fn.out.items ++ flat_map data_row (take l.row-index l.rows)
