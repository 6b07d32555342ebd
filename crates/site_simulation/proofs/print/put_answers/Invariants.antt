use Rattle.std.proofs.Common.{◌≡◌, ◌++◌, drop}
use Rattle.std.specs.List.{flat_map}
use Rattle.site_simulation.specs.Texts.{answer_line}
use Rattle.site_simulation.proofs.print.put_answers.Given as goal

-- What was printed, with the lines of the rows left, is the lines of all rows.
abbrev pub invariant-loop-row : goal.invariant-loop-row
invariant-loop-row l = l.out.items ++ flat_map answer_line (drop l.row-index l.rows)
    ≡ l.fn.out.items ++ flat_map answer_line l.rows
