-- What a log shows.
use Rattle.std.specs.Prelude.{◌≡◌, ◌&&◌, Bool, ℕ, List, Result, Ok, Err, refl}
use Rattle.std.specs.Coded.{Coded, code_by, coded×, coded_ℕ, coded_list}
use Rattle.sqlite_disk.specs.declared.Disk.{Ghosts}
use Rattle.head_log.specs.declared.gate.Gate.{Gate}
use Rattle.head_log.specs.declared.log.HeadLog.{HeadLog}
use Rattle.head_log.specs.declared.refused.Refused.{Refused}
use Rattle.head_log.specs.Reads.{OnlyReads}

-- the file
abbrev pub disk_of : {D : Type 0} → HeadLog D → D
disk_of log = log.disk

-- the file, whether it was opened or not
abbrev pub file_of : {D : Type 0} → Result (HeadLog D) (Refused D) → D
file_of (Ok log) = log.disk
file_of (Err refused) = refused.disk

-- the gate of the next group
abbrev pub gate_of : {D : Type 0} → HeadLog D → Gate
gate_of log = log.end

-- where that stands
abbrev pub end_of : {D : Type 0} → HeadLog D → ℕ
end_of log = log.end.at

-- a group can be added: no sync has failed, and the gate at the end is shut
abbrev pub is_up : {D : Type 0} → Ghosts D → HeadLog D → Bool
is_up g log = log.is_open && g.is_usable log.disk

-- a call only read
pub record Looks {D : Type 0} (g : Ghosts D) (old new : HeadLog D) : Type 0 where
  pub disk : OnlyReads g old.disk new.disk
  pub same : new.end ≡ old.end
  pub stays : new.is_open ≡ old.is_open

-- a gate is stored as its parts
abbrev pub gate_code : Coded Gate
gate_code =
    code_by (ℕ × List ℕ) (coded× coded_ℕ (coded_list coded_ℕ)) (λ gate. (gate.at, gate.prior))
    (λ parts. record { at = parts.0; prior = parts.1 }) (λ _. refl)
