-- A file of records to which more are added, and those that wait.
use Rattle.std.specs.Prelude.{◌≡◌, List, ◌++◌, Option, Some, None, IsTrue}
use Rattle.sqlite_disk.specs.declared.Disk.{Ghosts}
use Rattle.head_log.specs.declared.log.HeadLog.{HeadLog}
use Rattle.head_log.specs.Log.{disk_of, gate_of}
use Rattle.operation.specs.Parts.{ContentParts}
use Rattle.record_log.specs.declared.log.RecordLog.{RecordLog}
use Rattle.record_log.specs.Entries.{AreKept, without_notes}

-- a file, unless it was given up, keeps these contents
abbrev pub KeepsIn : {D : Type 0} → Ghosts D → Option (HeadLog D) → List ContentParts → Type 0
KeepsIn g None cs = Unit {0}
KeepsIn g (Some file) cs = AreKept g (disk_of file) (gate_of file) cs

-- as far as there is a file, no wrong answer of its disk was taken as true
abbrev pub IsClean : {D : Type 0} → Ghosts D → Option (HeadLog D) → Type 0
IsClean g None = Unit {0}
IsClean g (Some file) = IsTrue (g.is_clean (disk_of file))

-- these contents are those that the file keeps, and behind them those that wait
pub record Tells {D : Type 0} (g : Ghosts D) (log : RecordLog D) (cs : List ContentParts) : Type 0 where
  pub before : List ContentParts
  pub are : cs ≡ before ++ without_notes log.waiting.items
  pub kept : KeepsIn g log.file before
