use Rattle.std.proofs.Common.{◌≡◌, take, map}
use Rattle.site_tables.specs.Studies.{row_by}
use Rattle.site_tables.proofs.studies.rows_at.Given as goal

-- The rows are those of the answers so far.
abbrev pub invariant-loop-answer : goal.invariant-loop-answer
invariant-loop-answer l = l.rows.items ≡ map (row_by l.tags l.entries) (take l.answer-index l.answers)
