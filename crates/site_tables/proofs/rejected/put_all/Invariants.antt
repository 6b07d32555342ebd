use Rattle.std.proofs.Common.{◌≡◌, ◌++◌, drop}
use Rattle.site_tables.proofs.rejected.put_all.Given as goal

-- The UIDs so far, with those that are left, are all.
abbrev pub invariant-loop-uid : goal.invariant-loop-uid
invariant-loop-uid l = l.uids.items ++ drop l.uid-index l.more ≡ l.fn.uids.items ++ l.more
