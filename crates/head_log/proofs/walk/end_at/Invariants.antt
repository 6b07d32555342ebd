use Rattle.std.proofs.Common.{◌≡◌, ◌≤◌, ◌-◌, List, IsTrue}
use Rattle.head_log.specs.declared.gate.Gate.{Gate}
use Rattle.head_log.specs.Gates.{Leads}
use Rattle.head_log.specs.Groups.{first_gate}
use Rattle.head_log.specs.Reads.{OnlyReads}
use Rattle.head_log.proofs.walk.end_at.Given as goal

-- The gates so far lead here.
abbrev pub invariant-groups : goal.invariant-groups
invariant-groups g l =
    record {
      reads : OnlyReads g.D.Disk l.fn.disk l.disk;
      calm : g.D.Disk.faults l.disk ≡ g.D.Disk.faults l.fn.disk;
      low : l.gate.at ≤ l.len;
      leads : IsTrue (g.D.Disk.is_clean l.disk)
          → (gates : List Gate) × Leads (g.D.Disk.seen l.fn.disk) first_gate gates l.gate;
    }

-- With each group less is left.
abbrev pub decreases-groups : goal.decreases-groups
decreases-groups g l = l.len - l.gate.at
