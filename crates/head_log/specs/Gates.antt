-- The gates of a file, from one to the next. No sum is tested.
use Rattle.std.specs.Prelude.{◌≡◌, ◌+◌, ◌<◌, ◌≤◌, ◌^◌, ℕ, List, [], ◌∷◌, length, true, false}
use Rattle.std.specs.Int.{w64, to_le_bytes}
use Rattle.sqlite_disk.specs.Disk.{Holds}
use Rattle.head_log.specs.declared.gate.Gate.{Gate}
use Rattle.head_log.specs.Groups.{first_gate, is_shut_at}

-- A gate that is not shut, and behind it a length, for which the file has room, and a sum. The next gate stands behind
-- so many bytes.
pub record LeadsTo (file : List ℕ) (at : ℕ) (next : Gate) : Type 0 where
  pub size : ℕ
  pub not_shut : is_shut_at file at ≡ false
  pub length_is : Holds file (at + 8) (to_le_bytes w64 size)
  pub fits : size < 2 ^ 64
  pub sum_is : Holds file (at + 16) next.prior
  pub wide : length next.prior ≡ 32
  pub place : next.at ≡ at + 48 + size
  pub within : next.at ≤ length file

-- gates lead from one to another, by the lengths behind them
abbrev pub Leads : List ℕ → Gate → List Gate → Gate → Type 0
Leads file gate [] end = gate ≡ end
Leads file gate (next ∷ gates) end = LeadsTo file gate.at next × Leads file next gates end

-- they lead from the front to one that is shut
pub record EndsAt (file : List ℕ) (end : Gate) : Type 0 where
  pub gates : List Gate
  pub leads : Leads file first_gate gates end
  pub within : end.at + 8 ≤ length file
  pub shut : is_shut_at file end.at ≡ true

-- neither a shut gate stands here, nor another with a group
pub record IsStuckAt (file : List ℕ) (at : ℕ) : Type 0 where
  pub no_gate : at + 8 ≤ length file → is_shut_at file at ≡ false
  pub no_group : (next : Gate) → ¬ LeadsTo file at next

-- they lead from the front to where neither stands
pub record IsCutAt (file : List ℕ) (at : ℕ) : Type 0 where
  pub gates : List Gate
  pub last : Gate
  pub leads : Leads file first_gate gates last
  pub place : last.at ≡ at
  pub some : 8 < length file
  pub stuck : IsStuckAt file at
