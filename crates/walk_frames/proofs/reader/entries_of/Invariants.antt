use Rattle.std.proofs.Common.{◌≡◌, ◌-◌}
use Rattle.walk_frames.specs.Reading.{entries_at}
use Rattle.walk_frames.proofs.EntryLoop.{with_front}
use Rattle.walk_frames.proofs.reader.entries_of.Given as goal

-- The entries so far, with those that are still read, are all of them.
abbrev pub invariant-loop : goal.invariant-loop
invariant-loop l = with_front l.entries.items (entries_at (l.count - l.counter) l.rest) ≡ entries_at l.count l.text
