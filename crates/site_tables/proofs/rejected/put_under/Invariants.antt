use Rattle.std.proofs.Common.{◌≡◌, ◌++◌, drop, map}
use Rattle.site_tables.specs.Under.{pairs}
use Rattle.site_tables.proofs.rejected.put_under.Given as goal

-- The entries so far, with those of the UIDs that are left, are all.
abbrev pub invariant-loop-uid : goal.invariant-loop-uid
invariant-loop-uid l =
    pairs l.entries.items ++ map (λ u. (u, l.note)) (drop l.uid-index l.uids)
    ≡ pairs l.fn.entries.items ++ map (λ u. (u, l.note)) l.uids
