use Rattle.std.proofs.Common.{◌≡◌, ◌++◌, List, length}
use Rattle.operation.specs.Parts.{ContentParts}
use Rattle.record_log.specs.Entries.{AreEachTold, entries_text}
use Rattle.record_log.proofs.Cutting.{AreLeft, AreRead}
use Rattle.record_log.proofs.reading.take_entries.Given as goal

-- The entries so far were read. Whatever contents the group has, the text that is left has the others.
abbrev pub invariant-entries : goal.invariant-entries
invariant-entries l =
    record {
      read : AreRead l.group l.fn.told.items l.told.items l.rest;
      left : (cs : List ContentParts) → AreEachTold cs → l.group ≡ entries_text cs
          → AreLeft (l.fn.told.items ++ cs) l.told.items l.rest;
    }

-- With each entry less is left.
abbrev pub decreases-entries : goal.decreases-entries
decreases-entries l = length l.rest
