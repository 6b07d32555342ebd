use Rattle.std.proofs.Common.{List}
use Rattle.std.specs.Slice.Iter.{iter_rest}
use Rattle.operation.specs.Parts.{ContentParts}
use Rattle.record_log.specs.Log.{Tells}
use Rattle.shelved_site.proofs.Adding.{AreNewAdded}
use Rattle.shelved_site.proofs.keeping.add_new.Given as goal

-- What was added so far is of those that are new.
abbrev pub invariant-loop-op : goal.invariant-loop-op
invariant-loop-op g l =
    (cs : List ContentParts) → Tells g.H.Disk l.fn.records cs
    → AreNewAdded g.H.Disk l.records l.ops l.told (iter_rest l.rest) l.op-index cs
