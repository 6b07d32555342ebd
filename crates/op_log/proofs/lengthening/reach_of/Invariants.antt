use Rattle.std.proofs.Common.{◌<◌, ◌≤◌, ◌^◌, ◌-◌, ℕ, List, All, get_or}
use Rattle.op_log.specs.Heads.{Head}
use Rattle.op_log.specs.Kept.{IsBelow}
use Rattle.op_log.proofs.lengthening.reach_of.Given as goal

-- The data sets that came so far end there, at the latest, and one of them does.
pub record Reaches (heads : List Head) (index reach : ℕ) : Type 0 where
  pub below : (k : ℕ) (d : Head) → k < index → IsBelow (2 ^ 64 - 1) (get_or heads k d) → IsBelow reach (get_or heads k d)
  pub least : (end : ℕ) → All (IsBelow end) heads → reach ≤ end

abbrev pub invariant-loop-index : goal.invariant-loop-index
invariant-loop-index l = Reaches l.fn.places l.index l.reach
