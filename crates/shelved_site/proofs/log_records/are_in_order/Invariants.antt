use Rattle.shelved_site.proofs.Adding.{IsLeft}
use Rattle.shelved_site.proofs.log_records.are_in_order.Given as goal

-- What is told is in order where what is left of it is in the order of the operations that are left.
abbrev pub invariant-loop-op : goal.invariant-loop-op
invariant-loop-op l = IsLeft l.told l.recorded l.rest l.op-index
