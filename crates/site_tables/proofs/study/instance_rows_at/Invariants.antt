use Rattle.std.proofs.Common.{◌≡◌, take, map}
use Rattle.site_tables.specs.Study.{instance_row_by}
use Rattle.site_tables.proofs.study.instance_rows_at.Given as goal

-- The rows are those of the instances so far.
abbrev pub invariant-loop-instance : goal.invariant-loop-instance
invariant-loop-instance l = l.rows.items ≡ map (instance_row_by l.entries) (take l.instance-index l.instances)
