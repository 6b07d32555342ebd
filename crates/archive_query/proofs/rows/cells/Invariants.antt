use Rattle.std.proofs.Common.{◌≡◌, ◌++◌, drop, map}
use Rattle.std.specs.List.{filter_map}
use Rattle.archive_model.specs.Rows.{cell_in_row}
use Rattle.archive_query.specs.Found.{value_by}
use Rattle.archive_query.proofs.rows.cells.Given as goal

-- The elements so far, with those of the columns that are left, are the elements of the row.
abbrev pub invariant-loop-tag : goal.invariant-loop-tag
invariant-loop-tag l =
    l.cells.items ++ filter_map (cell_in_row (value_by l.fixes) l.called l.query (map (λ c. c.now) l.contents) l.first)
    (drop l.tag-index l.tag-items)
    ≡ filter_map (cell_in_row (value_by l.fixes) l.called l.query (map (λ c. c.now) l.contents) l.first) l.tag-items
