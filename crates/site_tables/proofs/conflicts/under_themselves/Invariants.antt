use Rattle.std.proofs.Common.{◌≡◌, take, map}
use Rattle.site_tables.specs.Under.{pairs, own_pair}
use Rattle.site_tables.proofs.conflicts.under_themselves.Given as goal

-- The entries are those of the UIDs so far.
abbrev pub invariant-loop-uid : goal.invariant-loop-uid
invariant-loop-uid l = pairs l.marks.items ≡ map own_pair (take l.uid-index l.uids)
