use Rattle.std.proofs.Common.{◌≡◌, ◌++◌, take}
use Rattle.std.specs.List.{flat_map}
use Rattle.archive_page.specs.Values.{array_of}
use Rattle.archive_page.proofs.values.put_rows.Given as goal

-- Those so far stand behind what was there, and what the writer began with stays.
abbrev pub invariant-loop-row : goal.invariant-loop-row
invariant-loop-row l =
    (l.writer.tokens ≡ l.fn.writer.tokens ++ flat_map array_of (take l.row-index l.rows))
    × (l.writer.before ≡ l.fn.writer.before)
