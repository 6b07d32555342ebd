use Rattle.std.proofs.Common.{◌≡◌, ◌++◌}
use Rattle.std.specs.List.{filter_map}
use Rattle.std.specs.Vec.Iter.{into_iter_items}
use Rattle.archive_query.specs.Loaded.{loaded_of}
use Rattle.archive_query.proofs.getting.loaded_all.Given as goal

-- with the instances that are left, all are loaded
abbrev pub invariant-loop-instance : goal.invariant-loop-instance
invariant-loop-instance l =
    l.found.items ++ filter_map (loaded_of l.site) (into_iter_items l.instance-iterator)
    ≡ filter_map (loaded_of l.site) (into_iter_items l.initial.instance-iterator)
