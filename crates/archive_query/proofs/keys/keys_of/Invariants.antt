use Rattle.std.proofs.Common.{◌≡◌, ◌++◌, drop}
use Rattle.archive_query.proofs.keys.keys_of.Given as goal

-- The keys so far, with those that are left, are all keys.
abbrev pub invariant-loop-asked : goal.invariant-loop-asked
invariant-loop-asked l = l.keys.items ++ drop l.asked-index l.asked-items ≡ l.asked-items
