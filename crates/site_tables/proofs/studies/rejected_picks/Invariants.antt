use Rattle.std.proofs.Common.{◌≡◌, ◌++◌, drop, map}
use Rattle.std.specs.List.{filter_map}
use Rattle.site_state.specs.Site.{ops_of}
use Rattle.site_tables.specs.Studies.{pick_of_short}
use Rattle.site_tables.proofs.studies.rejected_picks.Given as goal

-- The picks so far, with those of the UIDs that are left, are all.
abbrev pub invariant-loop-uid : goal.invariant-loop-uid
invariant-loop-uid l =
    map (λ c. c.now) l.found.items ++ filter_map (pick_of_short (ops_of l.site)) (drop l.uid-index l.uid-items)
    ≡ filter_map (pick_of_short (ops_of l.site)) l.uid-items
