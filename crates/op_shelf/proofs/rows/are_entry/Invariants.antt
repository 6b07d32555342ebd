use Rattle.std.proofs.Common.{◌≡◌, take, All}
use Rattle.op_shelf.specs.Entries.{entry_by}
use Rattle.op_shelf.proofs.rows.are_entry.Given as goal

-- the rows so far are the entry
abbrev pub invariant-loop-row : goal.invariant-loop-row
invariant-loop-row l = All (λ e. e ≡ entry_by l.digest l.body) (take l.row-index l.rows)
