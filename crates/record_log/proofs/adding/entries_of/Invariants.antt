use Rattle.std.proofs.Common.{◌≡◌, take}
use Rattle.record_log.specs.Entries.{AreEachTold, entries_text, without_notes}
use Rattle.record_log.proofs.adding.entries_of.Given as goal

-- The entries of the contents so far were written.
abbrev pub invariant-loop-content : goal.invariant-loop-content
invariant-loop-content l =
    record {
      text : l.out.items ≡ entries_text (without_notes (take l.content-index l.contents));
      told : AreEachTold (without_notes (take l.content-index l.contents));
    }
