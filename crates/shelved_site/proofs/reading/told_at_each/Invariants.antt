use Rattle.std.proofs.Common.{◌≡◌, take, map}
use Rattle.shelved_site.specs.Readable.{unread_at}
use Rattle.shelved_site.proofs.reading.told_at_each.Given as goal

-- So many are told.
abbrev pub invariant-loop-index : goal.invariant-loop-index
invariant-loop-index g l = l.told.items ≡ map (unread_at l.log.places) (take l.index-index l.indexes)
