use Rattle.std.proofs.Common.{◌≡◌, [], map, drop}
use Rattle.json.specs.Value.{value_view}
use Rattle.site_desk.specs.Tabled.{gathered, cells_at}
use Rattle.site_desk.proofs.tabled.rows_in.Given as goal

-- The rows so far, and those of the values that are left, are those of the list.
abbrev pub invariant-loop-value : goal.invariant-loop-value
invariant-loop-value l =
    gathered l.rows.items (map (λ row. cells_at l.places (value_view row)) (drop l.value-index l.list))
    ≡ gathered [] (map (λ row. cells_at l.places (value_view row)) l.list)
