use Rattle.std.proofs.Common.{◌≡◌, ◌++◌, drop, map}
use Rattle.std.specs.List.{filter}
use Rattle.site_tables.specs.Study.{concerns, change_row}
use Rattle.site_tables.proofs.study.change_rows_at.Given as goal

-- The rows so far, with those of the corrections that are left, are all.
abbrev pub invariant-loop-stamped : goal.invariant-loop-stamped
invariant-loop-stamped l =
    l.rows.items
    ++ map (change_row l.instances) (filter (concerns l.instances) (drop l.stamped-index l.corrections))
    ≡ map (change_row l.instances) (filter (concerns l.instances) l.corrections)
