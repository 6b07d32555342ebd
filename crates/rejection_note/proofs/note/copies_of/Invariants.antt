use Rattle.std.proofs.Common.{◌≡◌, take}
use Rattle.rejection_note.proofs.note.copies_of.Given as goal

-- The copies are the UIDs so far.
abbrev pub invariant-loop-uid : goal.invariant-loop-uid
invariant-loop-uid l = l.copies.items ≡ take l.uid-index l.uids
