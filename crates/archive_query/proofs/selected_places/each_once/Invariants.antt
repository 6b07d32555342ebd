use Rattle.std.proofs.Common.{◌≡◌, ◌++◌, drop}
use Rattle.archive_query.proofs.selected_places.each_once.Given as goal

-- The copies so far, with what is left, are all.
abbrev pub invariant-loop-uid : goal.invariant-loop-uid
invariant-loop-uid l = l.copies.items ++ drop l.uid-index l.uids ≡ l.uids
