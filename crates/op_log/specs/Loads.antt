-- What lies under a digest, and what a load tells.
use Rattle.std.specs.Prelude.{◌≡◌, ℕ, List}
use Rattle.sqlite_disk.specs.declared.Disk.{Ghosts}
use Rattle.operation.specs.declared.op.Op.{Op}
use Rattle.operation.specs.Reading.{IsOp}
use Rattle.operation.specs.Spelling.{hash_of}
use Rattle.op_log.specs.declared.fault.LogFault.{LogFault}
use Rattle.op_log.specs.declared.fault.LogFault.TheVariants.{Disk, Closed, TooLong, DamagedHeads, DamagedBody}
use Rattle.op_log.specs.declared.fault.LogFault.TheVariants.{Collision, Memory}
use Rattle.op_log.specs.Kept.{Has}
use Rattle.op_log.specs.Log.{Opened}

-- an operation lies in a log under this digest
pub record IsUnder {H B : Type 0} (g : Ghosts B) (digest : List ℕ) (log : Opened H B) (op : Op) : Type 0 where
  pub lawful : IsOp op
  pub own : hash_of op ≡ digest
  pub held : Has g log.bodies log.bodies_end log.places op

-- what a load tells
abbrev pub IsOfLoad : LogFault → Type 0
IsOfLoad Disk = Unit {0}
IsOfLoad Closed = Unit {0}
IsOfLoad TooLong = ⊥
IsOfLoad (DamagedHeads at) = ⊥
IsOfLoad (DamagedBody at) = Unit {0}
IsOfLoad Collision = Unit {0}
IsOfLoad Memory = Unit {0}
