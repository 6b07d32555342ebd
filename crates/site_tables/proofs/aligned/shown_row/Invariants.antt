use Rattle.std.proofs.Common.{◌≡◌, map, take}
use Rattle.std.specs.String.{string_bytes}
use Rattle.site_tables.specs.Aligned.{shown_text}
use Rattle.site_tables.proofs.aligned.shown_row.Given as goal

-- The cells so far, as they are shown.
abbrev pub invariant-loop-cell : goal.invariant-loop-cell
invariant-loop-cell l = map string_bytes l.cells.items ≡ map shown_text (take l.cell-index l.row)
