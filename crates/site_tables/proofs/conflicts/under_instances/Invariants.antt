use Rattle.std.proofs.Common.{◌≡◌, ◌++◌, drop, map}
use Rattle.std.specs.List.{filter_map}
use Rattle.site_tables.specs.Conflicts.{instance_pair}
use Rattle.site_tables.specs.Under.{pairs}
use Rattle.site_tables.proofs.conflicts.under_instances.Given as goal

-- The entries so far, with those of the operations that are left, are all.
abbrev pub invariant-loop-op : goal.invariant-loop-op
invariant-loop-op l =
    pairs l.found.items ++ filter_map (instance_pair (pairs l.marks)) (map (λ o. o.now) (drop l.op-index l.ops))
    ≡ filter_map (instance_pair (pairs l.marks)) (map (λ o. o.now) l.ops)
