use Rattle.std.proofs.Common.{take, All}
use Rattle.op_shelf.specs.Older.{IsPair}
use Rattle.op_shelf.proofs.rows.are_pairs.Given as goal

-- the rows so far are those of operations
abbrev pub invariant-loop-pair : goal.invariant-loop-pair
invariant-loop-pair l = All IsPair (take l.pair-index l.pairs)
