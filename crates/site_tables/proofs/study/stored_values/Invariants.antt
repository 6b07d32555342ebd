use Rattle.std.proofs.Common.{◌≡◌, ◌++◌, drop, map}
use Rattle.std.specs.List.{filter}
use Rattle.site_tables.specs.Study.{is_of, stored_value}
use Rattle.site_tables.proofs.study.stored_values.Given as goal

-- The values so far, with those of the instances that are left, are all.
abbrev pub invariant-loop-instance : goal.invariant-loop-instance
invariant-loop-instance l =
    l.found.items ++ map (stored_value l.correction) (filter (is_of l.correction) (drop l.instance-index l.instances))
    ≡ map (stored_value l.correction) (filter (is_of l.correction) l.instances)
