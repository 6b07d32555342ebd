use Rattle.std.proofs.Common.{◌≡◌, ◌++◌, drop}
use Rattle.std.specs.List.{flat_map}
use Rattle.site_state.specs.Site.{ops_of}
use Rattle.site_tables.specs.Conflicts.{conflicts_of}
use Rattle.site_tables.proofs.conflicts.take_conflicts.Given as goal

-- What was found, with the contents of the UIDs that are left, are those of all.
abbrev pub invariant-loop-uid : goal.invariant-loop-uid
invariant-loop-uid l =
    l.found.items ++ flat_map (conflicts_of (ops_of l.site)) (drop l.uid-index l.uid-items)
    ≡ flat_map (conflicts_of (ops_of l.site)) l.uid-items
