use Rattle.std.proofs.Common.{List}
use Rattle.operation.specs.Parts.{ContentParts}
use Rattle.record_log.specs.Log.{Tells}
use Rattle.shelved_site.proofs.Adding.{AreAdded}
use Rattle.shelved_site.proofs.log_records.add_others.Given as goal

-- What was added so far is of those that are not told.
abbrev pub invariant-loop-op : goal.invariant-loop-op
invariant-loop-op g l =
    (cs : List ContentParts) → Tells g.D.Disk l.fn.records cs
    → AreAdded g.D.Disk l.told l.recorded cs l.records l.rest l.op-index
