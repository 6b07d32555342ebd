use Rattle.std.proofs.Common.{◌≡◌, ◌≤◌, ◌-◌, All, length, IsTrue}
use Rattle.head_log.specs.Log.{disk_of, end_of, Looks}
use Rattle.op_log.specs.Kept.{IsBelow}
use Rattle.op_log.specs.Walking.{AreLaid}
use Rattle.op_log.proofs.walking.walk.Given as goal

-- All that lies before here was walked.
abbrev pub invariant-groups : goal.invariant-groups
invariant-groups g l =
    record {
      looks : Looks g.H.Disk l.fn.heads l.heads;
      below : All (IsBelow l.end) l.places;
      within : l.gate.at ≤ end_of l.fn.heads;
      calm : (IsTrue (g.H.Disk.is_clean (disk_of l.fn.heads)) → end_of l.fn.heads ≤ length (g.H.Disk.seen (disk_of l.fn.heads)))
          → g.H.Disk.faults (disk_of l.heads) ≡ g.H.Disk.faults (disk_of l.fn.heads);
      laid : IsTrue (g.H.Disk.is_clean (disk_of l.heads)) → AreLaid (g.H.Disk.seen (disk_of l.fn.heads)) l.gate l.end l.places;
    }

-- With each group less is left.
abbrev pub decreases-groups : goal.decreases-groups
decreases-groups g l = end_of l.fn.heads - l.gate.at
