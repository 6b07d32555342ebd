use Rattle.std.proofs.Common.{◌≡◌, ◌≤◌, ◌-◌, [], List, ℕ, IsTrue}
use Rattle.head_log.specs.Groups.{IsReady}
use Rattle.head_log.specs.Log.{disk_of as new_disk, gate_of, is_up}
use Rattle.older_heads.specs.Groups.{Laid}
use Rattle.older_heads.specs.Log.{Looks, disk_of, end_of}
use Rattle.older_heads.specs.Renewing.{Reaches}
use Rattle.older_heads.proofs.Copying.{AreBehind}
use Rattle.older_heads.proofs.renewing.renew.Given as goal

-- The log has a front of the groups, and the others lie from here on.
abbrev pub invariant-groups : goal.invariant-groups
invariant-groups g l =
    record {
      looks : Looks g.O.Disk l.fn.older l.older;
      calm : Reaches g.O.Disk l.fn.older
          → g.O.Disk.faults (disk_of l.older) ≡ g.O.Disk.faults (disk_of l.fn.older);
      still : g.N.Disk.faults (new_disk l.log) ≡ g.N.Disk.faults (new_disk l.fn.log);
      clean : IsTrue (g.N.Disk.is_clean (new_disk l.log)) → IsTrue (g.N.Disk.is_clean (new_disk l.fn.log));
      up : IsTrue (is_up g.N.Disk l.fn.log) → IsTrue (is_up g.N.Disk l.log);
      within : l.at ≤ end_of l.fn.older;
      copied : IsTrue (g.O.Disk.is_clean (disk_of l.older)) → (groups : List (List ℕ))
          → Laid (g.O.Disk.seen (disk_of l.fn.older)) 0 groups (end_of l.fn.older)
          → (front : List (List ℕ)) × AreBehind (g.O.Disk.seen (disk_of l.fn.older)) l.at
          (end_of l.fn.older) groups front
          × (IsReady g.N.Disk (new_disk l.fn.log) (gate_of l.fn.log) []
          → IsReady g.N.Disk (new_disk l.log) (gate_of l.log) front);
    }

-- With each group less is left.
abbrev pub decreases-groups : goal.decreases-groups
decreases-groups g l = end_of l.fn.older - l.at
