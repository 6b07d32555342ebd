use Rattle.std.proofs.Common.{◌≡◌, ◌++◌, drop, map}
use Rattle.site_tables.specs.Rejected.{notes_of}
use Rattle.site_tables.proofs.rejected.notes_in.Given as goal

-- The notes so far, with those among the operations that are left, are all.
abbrev pub invariant-loop-op : goal.invariant-loop-op
invariant-loop-op l =
    map (λ c. c.now) l.found.items ++ notes_of (map (λ o. o.now) (drop l.op-index l.ops))
    ≡ notes_of (map (λ o. o.now) l.ops)
