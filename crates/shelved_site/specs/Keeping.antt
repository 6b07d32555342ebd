-- The operations that a log keeps.
use Rattle.std.specs.Prelude.{◌≡◌, ℕ, List, Some, IsTrue}
use Rattle.sqlite_disk.specs.declared.Disk.{Ghosts}
use Rattle.operation.specs.declared.op.Op.{Op}
use Rattle.operation.specs.Spelling.{hash_of, spelling}
use Rattle.op_log.specs.Heads.{Head, head_of}
use Rattle.op_log.specs.Kept.{AreOf, Has, IsLasting, StandsFor, first_under}
use Rattle.op_log.specs.Log.{Opened}
use Rattle.shelved_site.specs.declared.keeping.KeptLog.{KeptLog}

-- the log
abbrev pub log_of : {H B : Type 0} → KeptLog H B → Opened H B
log_of kept = kept.log

-- a log is open, and so far the disks have returned what was written
pub record IsUp {H B : Type 0} (gh : Ghosts H) (gb : Ghosts B) (log : Opened H B) : Type 0 where
  pub heads : IsTrue (gh.is_clean log.heads)
  pub bodies : IsTrue (gb.is_clean log.bodies)
  pub opens : IsTrue log.is_open

-- a log has an operation that is spelled so
abbrev pub Holds : {H B : Type 0} → Ghosts B → Opened H B → Op → Type 0
Holds g log other = (op : Op) × Has g log.bodies log.bodies_end log.places op × (spelling other ≡ spelling op)

-- and so do two files
abbrev pub AreHeld : List ℕ → List ℕ → Op → Type 0
AreHeld heads bodies other =
    (them : List Head) × StandsFor heads them × ((op : Op) × AreOf them bodies op × (spelling other ≡ spelling op))

-- A log has an operation that is spelled so, and whatever a crash leaves of the file of heads has all heads, and of
-- the other its data set.
pub record Lasts {H B : Type 0} (gh : Ghosts H) (gb : Ghosts B) (log : Opened H B) (other : Op) : Type 0 where
  pub op : Op
  pub at : ℕ
  pub first : first_under (hash_of op) log.places ≡ Some (head_of (op, at))
  pub alike : spelling other ≡ spelling op
  pub lasting : IsLasting gb log.bodies log.bodies_end (op, at)
  pub heads_are : (h : List ℕ) → gh.may_leave log.heads h → StandsFor h log.places
