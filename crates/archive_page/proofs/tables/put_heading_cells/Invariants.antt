use Rattle.std.proofs.Common.{◌≡◌, ◌++◌, map, take}
use Rattle.std.specs.List.{flat_map}
use Rattle.archive_page.specs.Tables.{heading_cell}
use Rattle.archive_page.proofs.tables.put_heading_cells.Given as goal

-- Those so far stand behind what was there.
abbrev pub invariant-loop-cell : goal.invariant-loop-cell
invariant-loop-cell l =
    l.out.items ≡ l.fn.out.items ++ flat_map heading_cell (map (λ cell. cell.now) (take l.cell-index l.heading))
