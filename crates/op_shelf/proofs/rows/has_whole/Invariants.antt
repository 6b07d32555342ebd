use Rattle.std.proofs.Common.{take, All}
use Rattle.op_shelf.specs.Entries.{IsWhole}
use Rattle.op_shelf.proofs.rows.has_whole.Given as goal

-- none of the rows so far has the bytes of its digest
abbrev pub invariant-loop-row : goal.invariant-loop-row
invariant-loop-row l = All (λ e. ¬ IsWhole e) (take l.row-index l.rows)
