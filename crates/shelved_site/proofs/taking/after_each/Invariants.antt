use Rattle.std.proofs.Common.{◌≡◌, ◌++◌, List, length}
use Rattle.std.specs.Vec.Iter.{into_iter_items, into_iter_len}
use Rattle.operation.specs.declared.op.Op.{Op}
use Rattle.site_state.specs.Laws.{Apart, after_taking}
use Rattle.shelved_site.proofs.taking.after_each.Given as goal

-- The site took those that were met, which are apart, and the others follow them.
abbrev pub invariant-loop-op : goal.invariant-loop-op
invariant-loop-op l =
    (done : List Op) × (l.site ≡ after_taking done) × (done ++ into_iter_items l.op-iterator ≡ l.fn.recorded.items)
    × (into_iter_len l.op-iterator ≡ length (into_iter_items l.op-iterator)) × Apart done
