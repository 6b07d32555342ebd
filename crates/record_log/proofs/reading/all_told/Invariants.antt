use Rattle.std.proofs.Common.{◌≡◌, ◌≤◌, ◌-◌, List, length, IsTrue}
use Rattle.head_log.specs.Log.{disk_of, end_of, gate_of, Looks}
use Rattle.operation.specs.Parts.{ContentParts}
use Rattle.record_log.specs.Entries.{AreTold}
use Rattle.record_log.proofs.Walking.{AreBehind, HasEntriesTo}
use Rattle.record_log.proofs.reading.all_told.Given as goal

-- The entries so far were read. Whatever contents the file tells, the groups from here on have the others.
abbrev pub invariant-groups : goal.invariant-groups
invariant-groups g l =
    record {
      looks : Looks g.D.Disk l.fn.log l.log;
      within : l.gate.at ≤ end_of l.fn.log;
      calm : (IsTrue (g.D.Disk.is_clean (disk_of l.fn.log))
          → end_of l.fn.log ≤ length (g.D.Disk.seen (disk_of l.fn.log)))
          → g.D.Disk.faults (disk_of l.log) ≡ g.D.Disk.faults (disk_of l.fn.log);
      entries : IsTrue (g.D.Disk.is_clean (disk_of l.log))
          → HasEntriesTo (g.D.Disk.seen (disk_of l.fn.log)) l.gate (length l.told.items);
      left : IsTrue (g.D.Disk.is_clean (disk_of l.log)) → (cs : List ContentParts)
          → AreTold (g.D.Disk.seen (disk_of l.fn.log)) (gate_of l.fn.log) cs
          → AreBehind (g.D.Disk.seen (disk_of l.fn.log)) l.gate (gate_of l.fn.log) cs l.told.items;
    }

-- With each group less is left.
abbrev pub decreases-groups : goal.decreases-groups
decreases-groups g l = end_of l.fn.log - l.gate.at
