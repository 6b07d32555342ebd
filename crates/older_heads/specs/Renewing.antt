-- What is told where the groups of an older file are copied.
use Rattle.std.specs.Prelude.{◌≤◌, IsTrue, length}
use Rattle.sqlite_disk.specs.declared.Disk.{Ghosts}
use Rattle.head_log.specs.declared.fault.HeadFault.TheVariants.{Disk, Closed, TooLong, Damaged, Memory}
use Rattle.older_heads.specs.declared.log.OlderHeads.{OlderHeads}
use Rattle.older_heads.specs.declared.renewing.RenewFault.{RenewFault}
use Rattle.older_heads.specs.declared.renewing.RenewFault.TheVariants.{Older, Newer}
use Rattle.older_heads.specs.Log.{disk_of, end_of}

-- Nothing of the older file is too long, and nothing of the log is damaged.
abbrev pub IsOfRenewing : RenewFault → Type 0
IsOfRenewing (Older Disk) = Unit {0}
IsOfRenewing (Older Closed) = Unit {0}
IsOfRenewing (Older TooLong) = ⊥
IsOfRenewing (Older (Damaged at)) = Unit {0}
IsOfRenewing (Older Memory) = Unit {0}
IsOfRenewing (Newer Disk) = Unit {0}
IsOfRenewing (Newer Closed) = Unit {0}
IsOfRenewing (Newer TooLong) = Unit {0}
IsOfRenewing (Newer (Damaged at)) = ⊥
IsOfRenewing (Newer Memory) = Unit {0}

-- as long as the disk returns what was written, the file is as long as its groups
abbrev pub Reaches : {D : Type 0} → Ghosts D → OlderHeads D → Type 0
Reaches g log = IsTrue (g.is_clean (disk_of log)) → end_of log ≤ length (g.seen (disk_of log))
