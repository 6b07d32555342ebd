use Rattle.std.proofs.Common.{◌≡◌, drop}
use Rattle.site_desk.specs.Tabled.{told_of}
use Rattle.site_desk.proofs.tabled.number_in.Given as goal

-- No row so far has the word: the first is among those that are left.
abbrev pub invariant-loop-row : goal.invariant-loop-row
invariant-loop-row l = told_of l.word (drop l.row-index l.rows) ≡ told_of l.word l.rows
