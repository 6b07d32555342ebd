use Rattle.std.proofs.Common.{◌≡◌, ◌⊎◌, ◌<◌, length}
use Rattle.std.specs.Prelude.{All}
use Rattle.association_session.specs.Session.{IsWritable}
use Rattle.association_session.specs.inner.Telling.{TellsSome}
use Rattle.association_session.proofs.telling.put_rows.Given as goal

-- some rows are told, and the others are left
abbrev pub invariant-loop-spelled : goal.invariant-loop-spelled
invariant-loop-spelled l = record {
  told : TellsSome l.awaited l.kind l.fn.rows l.rows l.fn.deeds l.deeds;
  fewer : (l.spelled ≡ 0) ⊎ (length l.rows < length l.fn.rows);
  writable : All IsWritable l.fn.deeds → All IsWritable l.deeds;
}

-- Each turn leaves fewer rows.
abbrev pub decreases-loop-spelled : goal.decreases-loop-spelled
decreases-loop-spelled l = length l.rows
