use Rattle.std.proofs.Common.{◌≡◌, ◌++◌, map, drop}
use Rattle.std.specs.String.{string_bytes}
use Rattle.site_tables.specs.Aligned.{cells_from}
use Rattle.site_tables.proofs.aligned.put_cells.Given as goal

-- With the cells that are left the line is whole.
abbrev pub invariant-loop-column : goal.invariant-loop-column
invariant-loop-column l = l.out.items ++ cells_from l.widths l.column (map string_bytes (drop l.column l.row))
    ≡ l.fn.out.items ++ cells_from l.widths 0 (map string_bytes l.row)
