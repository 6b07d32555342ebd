use Rattle.std.proofs.Common.{◌≡◌, ◌++◌, take}
use Rattle.std.specs.List.{flat_map}
use Rattle.archive_page.specs.Tables.{linked_row}
use Rattle.archive_page.proofs.tables.put_linked_rows.Given as goal

-- Those so far stand behind what was there.
abbrev pub invariant-loop-row : goal.invariant-loop-row
invariant-loop-row l = l.out.items ≡ l.fn.out.items ++ flat_map linked_row (take l.row-index l.rows)
