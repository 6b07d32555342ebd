use Rattle.std.proofs.Common.{◌≡◌, ◌≤◌, ◌-◌, List, ℕ, IsTrue}
use Rattle.older_heads.specs.Gates.{Leads}
use Rattle.head_log.specs.Reads.{OnlyReads}
use Rattle.older_heads.proofs.walk.end_at.Given as goal

-- The gates so far are open.
abbrev pub invariant-groups : goal.invariant-groups
invariant-groups g l =
    record {
      reads : OnlyReads g.D.Disk l.fn.disk l.disk;
      calm : g.D.Disk.faults l.disk ≡ g.D.Disk.faults l.fn.disk;
      low : l.at ≤ l.len;
      leads : IsTrue (g.D.Disk.is_clean l.disk) → (sizes : List ℕ) × Leads (g.D.Disk.seen l.fn.disk) 0 sizes l.at;
    }

-- With each group less is left.
abbrev pub decreases-groups : goal.decreases-groups
decreases-groups g l = l.len - l.at
