use Rattle.std.proofs.Common.{List, map, length}
use Rattle.op_log.specs.Heads.{Head}
use Rattle.op_log.specs.Places.{head_at}
use Rattle.op_log.specs.Staged.{AreThere, IsUndone}
use Rattle.op_log.proofs.places.Places.restore.Given as goal

-- The last ones were put back, and the others can be.
abbrev pub invariant-replaced : goal.invariant-replaced
invariant-replaced l =
    record {
      there : AreThere l.self (map head_at l.left.items);
      undone : (first : List Head) → IsUndone first l.fn.self (map head_at l.fn.replaced.items) → IsUndone first l.self (map head_at l.left.items);
    }

-- With each one fewer is left.
abbrev pub decreases-replaced : goal.decreases-replaced
decreases-replaced l = length l.left.items
