use Rattle.std.proofs.Common.{◌≡◌, map, drop}
use Rattle.json.specs.Value.{value_view}
use Rattle.site_desk.specs.Tabled.{gathered, cell_at, cells_at}
use Rattle.site_desk.proofs.tabled.row_in.Given as goal

-- The cells so far, and those at the places that are left, are those of the row.
abbrev pub invariant-loop-place : goal.invariant-loop-place
invariant-loop-place l =
    gathered l.cells (map (cell_at (value_view l.row)) (drop l.place-index l.places))
    ≡ cells_at l.places (value_view l.row)
