use Rattle.std.proofs.Common.{◌≡◌, ◌++◌, drop, map}
use Rattle.site_state.specs.Site.{ops_of}
use Rattle.site_tables.specs.Conflicts.{conflicts_among}
use Rattle.site_tables.proofs.conflicts.put_conflicts.Given as goal

-- The contents among the operations that are left, behind what stands there.
abbrev pub invariant-loop-op : goal.invariant-loop-op
invariant-loop-op l =
    l.found.items ++ conflicts_among (ops_of l.site) l.uid (map (λ o. o.now) (drop l.op-index l.ops))
    ≡ l.fn.found.items ++ conflicts_among (ops_of l.site) l.uid (map (λ o. o.now) l.ops)
