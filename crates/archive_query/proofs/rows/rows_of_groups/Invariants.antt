use Rattle.std.proofs.Common.{◌≡◌, ◌++◌, map, drop}
use Rattle.std.specs.List.{filter_map}
use Rattle.archive_model.specs.Rows.{row_of_with}
use Rattle.archive_query.specs.Found.{value_by}
use Rattle.archive_query.proofs.rows.rows_of_groups.Given as goal

-- The rows so far, with those of the groups that are left, are the rows of all groups.
abbrev pub invariant-loop-group : goal.invariant-loop-group
invariant-loop-group l =
    l.rows ++ filter_map (row_of_with (value_by l.fixes) l.called l.query)
    (map (λ g. map (λ c. c.now) g.now) (drop l.group-index l.groups))
    ≡ filter_map (row_of_with (value_by l.fixes) l.called l.query) (map (λ g. map (λ c. c.now) g.now) l.groups)
