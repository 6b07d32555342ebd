use Rattle.std.proofs.Common.{◌≡◌, ◌++◌, ◌∷◌, [], map, take}
use Rattle.std.specs.List.{flat_map}
use Rattle.std.specs.String.{string_bytes}
use Rattle.site_tables.specs.Aligned.{shown_text, widths, cells_from}
use Rattle.site_tables.proofs.aligned.align.Given as goal

-- The heading and the rows so far, as they are shown.
abbrev pub invariant-loop-row : goal.invariant-loop-row
invariant-loop-row l = map (λ row. map string_bytes row.items) l.lines.items
    ≡ map (λ cell. shown_text cell.now) l.heading ∷ map (map shown_text) (take l.row-index l.rows)

-- The widths of the columns so far.
abbrev pub invariant-loop-column : goal.invariant-loop-column
invariant-loop-column l = l.widths.items ≡ widths l.column (map (λ row. map string_bytes row.items) l.table)

-- The lines so far were put.
abbrev pub invariant-loop-line : goal.invariant-loop-line
invariant-loop-line l = l.out.items ≡ flat_map (λ row. cells_from l.widths.items 0 row ++ 10 ∷ [])
    (map (λ row. map string_bytes row.items) (take l.line-index l.table))
