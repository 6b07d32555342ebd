use Rattle.std.proofs.Common.{take}
use Rattle.std.specs.List.{AllByRecursion}
use Rattle.walk_frames.specs.Entries.{IsEntry}
use Rattle.walk_frames.proofs.walk.see_entries.Given as goal

-- the entries so far are entries
abbrev pub invariant-loop-entry : goal.invariant-loop-entry
invariant-loop-entry l = AllByRecursion IsEntry (take l.entry-index l.entries)
