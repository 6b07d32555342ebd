-- What a log of operations shows.
use Rattle.std.specs.Prelude.{◌≡◌, ◌≤◌, ◌<◌, ◌+◌, ◌^◌, ◌⊎◌, ◌&&◌, Bool, ℕ, List, All, length, IsTrue, Result, Ok, Err}
use Rattle.std.specs.Prelude.{refl}
use Rattle.std.specs.Coded.{Coded, code_by, coded×, coded_ℕ, coded_bool, coded_list}
use Rattle.sqlite_disk.specs.declared.Disk.{Ghosts}
use Rattle.body_log.specs.declared.log.BodyLog.{BodyLog}
use Rattle.body_log.specs.Lasts.{Spares}
use Rattle.body_log.specs.Log.{disk_of, end_of}
use Rattle.head_log.specs.declared.gate.Gate.{Gate}
use Rattle.head_log.specs.declared.log.HeadLog.{HeadLog}
use Rattle.head_log.specs.Log.{gate_code, is_up}
use Rattle.head_log.specs.Log.{disk_of as heads_of, gate_of as heads_end}
use Rattle.op_log.specs.declared.refused.Refused.{Refused}
use Rattle.op_log.specs.Heads.{Head, bodies_long, head_code, heads_long}
use Rattle.op_log.specs.Kept.{IsBelow, IsKept}
use Rattle.operation.specs.declared.op.Op.{Op}

-- the two files and where each ends, whether operations can be put, and the heads, in order
pub record Opened (H B : Type 0) : Type 0 where
  pub heads : H
  pub heads_end : Gate
  pub bodies : B
  pub bodies_end : ℕ
  pub is_open : Bool
  pub places : List Head

-- it is stored as its parts
abbrev pub opened_code : {H B : Type 0} → Coded H → Coded B → Coded (Opened H B)
opened_code {H} {B} heads bodies =
    code_by (H × (Gate × (B × (ℕ × (Bool × List Head)))))
    (coded× heads (coded× gate_code (coded× bodies (coded× coded_ℕ (coded× coded_bool (coded_list head_code))))))
    (λ o. (o.heads, (o.heads_end, (o.bodies, (o.bodies_end, (o.is_open, o.places))))))
    (λ p. record {
      heads = p.0;
      heads_end = p.1.0;
      bodies = p.1.1.0;
      bodies_end = p.1.1.1.0;
      is_open = p.1.1.1.1.0;
      places = p.1.1.1.1.1;
    })
    (λ _. refl)

-- the file of heads, whether it was opened or not
abbrev pub heads_in : {H B : Type 0} → Result (Opened H B) (Refused H B) → H
heads_in (Ok log) = log.heads
heads_in (Err refused) = refused.heads

-- and that of data sets
abbrev pub bodies_in : {H B : Type 0} → Result (Opened H B) (Refused H B) → B
bodies_in (Ok log) = log.bodies
bodies_in (Err refused) = refused.bodies

-- Each data set of a head lies below the end of its file. As long as the disk returns what was written, the file is so
-- long, and the heads are all that their file stands for, whatever a crash leaves of it.
pub record IsSound {H B : Type 0} (gh : Ghosts H) (gb : Ghosts B) (log : Opened H B) : Type 0 where
  pub below : All (IsBelow log.bodies_end) log.places
  pub reach : IsTrue (gb.is_clean log.bodies) → log.bodies_end ≤ length (gb.seen log.bodies)
  pub kept : IsTrue (gh.is_clean log.heads) → IsTrue log.is_open → IsKept gh log.heads log.heads_end log.places

-- what the files and the heads in memory show
abbrev pub opened : {H B : Type 0} → Ghosts H → Ghosts B → HeadLog H → BodyLog B → List Head → Opened H B
opened gh gb heads bodies places = record {
  heads = heads_of heads;
  heads_end = heads_end heads;
  bodies = disk_of bodies;
  bodies_end = end_of bodies;
  is_open = is_up gh heads && gb.is_usable (disk_of bodies);
  places = places;
}

-- a group is too long: it has too many operations, or their heads too many bytes, or a file no room for it
abbrev pub IsTooLong : {H B : Type 0} → Opened H B → List Op → Type 0
IsTooLong log ops =
    (1024 < length ops)
    ⊎ ((2 ^ 40 ≤ heads_long ops) ⊎ ((2 ^ 60 < log.heads_end.at) ⊎ (2 ^ 64 ≤ log.bodies_end + bodies_long ops)))

-- what holds through a call: what holds of a log, and nothing is written over
pub record GoesOn {H B : Type 0} (gh : Ghosts H) (gb : Ghosts B) (old new : Opened H B) : Type 0 where
  pub before : IsSound gh gb old
  pub after : IsSound gh gb new
  pub opens : IsTrue new.is_open → IsTrue old.is_open
  pub clean : IsTrue (gh.is_clean new.heads) → IsTrue (gh.is_clean old.heads)
  pub spared : Spares gb old.bodies_end old.bodies new.bodies
  pub longer : old.bodies_end ≤ new.bodies_end

-- a call only read data sets
pub record Looks {H B : Type 0} (old new : Opened H B) : Type 0 where
  pub heads : new.heads ≡ old.heads
  pub heads_end : new.heads_end ≡ old.heads_end
  pub places : new.places ≡ old.places
  pub opens : new.is_open ≡ old.is_open
