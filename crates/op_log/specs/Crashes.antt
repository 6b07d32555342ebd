-- What a crash leaves of the two files of a log.
use Rattle.std.specs.Prelude.{◌≡◌, ◌≤◌, ◌⊎◌, ℕ, List, All, IsTrue, length}
use Rattle.sqlite_disk.specs.declared.Disk.{Ghosts}
use Rattle.body_log.specs.Lasts.{Stays}
use Rattle.head_log.specs.Groups.{joined}
use Rattle.operation.specs.declared.op.Op.{Op}
use Rattle.op_log.specs.Heads.{Entry}
use Rattle.op_log.specs.Kept.{AreOf, Has, HasBody, IsBelow, IsHeld, IsLasting, StandsFor}
use Rattle.op_log.specs.Log.{GoesOn, IsSound, Opened}
use Rattle.op_log.specs.Puts.{LeavesAllOf, LeavesAllOrNone}
use Rattle.op_log.specs.Walking.{AreLaid, AreOfLog}

-- what a file of data sets has below an offset lasts
abbrev pub AllLast : {B : Type 0} → Ghosts B → B → ℕ → Type 0
AllLast g disk end = (e : Entry) → IsHeld g disk end e → IsLasting g disk end e

-- A log is open, and its disks return what was written. Its data sets lie below an offset, and what its file has there
-- lasts.
pub record IsSettled {H B : Type 0} (gh : Ghosts H) (gb : Ghosts B) (log : Opened H B) (end : ℕ) : Type 0 where
  pub sound : IsSound gh gb log
  pub opens : IsTrue log.is_open
  pub heads_clean : IsTrue (gh.is_clean log.heads)
  pub bodies_clean : IsTrue (gb.is_clean log.bodies)
  pub up_to : end ≤ log.bodies_end
  pub below : All (IsBelow end) log.places
  pub lasting : AllLast gb log.bodies end

-- One file stands for the heads of a log, in order. The other reaches to the end of the data set of each, and has those of
-- the operations that the log has.
pub record HaveAllOf {H B : Type 0} (g : Ghosts B) (log : Opened H B) (heads bodies : List ℕ) : Type 0 where
  pub stands : StandsFor heads log.places
  pub within : All (IsBelow (length bodies)) log.places
  pub ops : (op : Op) → Has g log.bodies log.bodies_end log.places op → AreOf log.places bodies op

module _ {H B : Type 0} (gh : Ghosts H) (gb : Ghosts B) where
  -- two files may be what a crash leaves of those of a log
  pub record AreLeft (log : Opened H B) (heads bodies : List ℕ) : Type 0 where
    pub heads_left : gh.may_leave log.heads heads
    pub bodies_left : gb.may_leave log.bodies bodies

  -- A log is settled up to its end where its data sets last: `OpLog::open` says so of all that was in the file, and
  -- `OpLog::put_many` of all that is. It stays so through a call from which it comes back open, with the same heads.
  pub record ComesToBeSettled : Type 0 where
    pub opened : (log : Opened H B) (file : B) → IsSound gh gb log → IsTrue log.is_open → IsTrue (gh.is_clean log.heads)
        → IsTrue (gb.is_clean log.bodies) → Stays gb file log.bodies
        → ((e : Entry) → HasBody (gb.seen file) e → IsLasting gb log.bodies log.bodies_end e) → IsSettled gh gb log log.bodies_end
    pub put : (log : Opened H B) → IsSound gh gb log → IsTrue log.is_open → IsTrue (gh.is_clean log.heads)
        → IsTrue (gb.is_clean log.bodies) → AllLast gb log.bodies log.bodies_end → IsSettled gh gb log log.bodies_end
    pub stays : (old new : Opened H B) (end : ℕ) → IsSettled gh gb old end → GoesOn gh gb old new → IsTrue new.is_open
        → IsTrue (gh.is_clean new.heads) → IsTrue (gb.is_clean new.bodies) → new.places ≡ old.places → IsSettled gh gb new end

  -- what a crash leaves has all that the log has
  abbrev pub LeavesAll : Type 0
  LeavesAll =
      (log : Opened H B) (end : ℕ) → IsSettled gh gb log end → (heads bodies : List ℕ) → AreLeft log heads bodies
      → HaveAllOf gb log heads bodies

  -- Where the heads that lie in the file fit, also those in whose place others were put, what a crash leaves is of a log
  -- with its heads.
  abbrev pub LeavesLog : Type 0
  LeavesLog =
      (log : Opened H B) (end : ℕ) → IsSettled gh gb log end → AreLaid (gh.seen log.heads) log.heads_end end log.places
      → (heads bodies : List ℕ) → AreLeft log heads bodies → AreOfLog heads bodies log.places

  -- They do where none was put in the place of another: the heads that are left are those of the log and no more.
  abbrev pub LeavesLogOfOwn : Type 0
  LeavesLogOfOwn =
      (log : Opened H B) (end : ℕ) → IsSettled gh gb log end → (heads bodies : List ℕ) → AreLeft log heads bodies
      → (stands : StandsFor heads log.places) → joined stands.groups ≡ log.places → AreOfLog heads bodies log.places

  -- what a crash leaves of a put that is under way has all that the log had, or all that the put makes
  abbrev pub LeavesOldOrAll : Type 0
  LeavesOldOrAll =
      (old new : Opened H B) (end : ℕ) (ops : List Op) → IsSettled gh gb old end → GoesOn gh gb old new
      → LeavesAllOrNone gh gb new.heads new.bodies new.bodies_end old.places ops → (heads bodies : List ℕ) → AreLeft new heads bodies
      → HaveAllOf gb old heads bodies ⊎ LeavesAllOf gb new.bodies new.bodies_end old.places ops heads bodies
