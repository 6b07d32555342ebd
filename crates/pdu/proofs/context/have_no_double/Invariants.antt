use Rattle.std.proofs.Common.{◌≡◌, length}
use Rattle.pdu.specs.Grammar.{are_distinct}
use Rattle.pdu.proofs.context.have_no_double.Given as goal

-- No ID so far stands again, so all are distinct exactly where those left are.
abbrev pub invariant-loop-rest : goal.invariant-loop-rest
invariant-loop-rest l = are_distinct l.rest ≡ are_distinct l.ids

-- With each turn one ID fewer is left.
abbrev pub decreases-loop-rest : goal.decreases-loop-rest
decreases-loop-rest l = length l.rest
