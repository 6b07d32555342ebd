use Rattle.std.proofs.Common.{◌≡◌, ◌++◌, length, take}
use Rattle.std.specs.Int.{w16, to_be_bytes}
use Rattle.std.specs.List.{flat_map}
use Rattle.walk_frames.specs.Spelling.{entry_text}
use Rattle.walk_frames.proofs.writer.write_walk.Given as goal

-- the count, and the entries so far
abbrev pub invariant-loop-entry : goal.invariant-loop-entry
invariant-loop-entry l = l.out.items
    ≡ to_be_bytes w16 (length l.entries) ++ flat_map entry_text (take l.entry-index l.entries)
