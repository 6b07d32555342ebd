use Rattle.std.proofs.Common.{◌≡◌, ◌++◌, map, drop}
use Rattle.archive_query.proofs.selected.in_order.Given as goal

-- The UIDs that were copied, with those that are left, are all of them.
abbrev pub invariant-loop-uid : goal.invariant-loop-uid
invariant-loop-uid l = map (λ u. u.now) l.found.items ++ drop l.uid-index l.uids ≡ l.uids
