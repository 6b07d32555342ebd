-- The gates of a file, from one to the next. No sum is tested.
use Rattle.std.specs.Prelude.{◌≡◌, ◌≢◌, ◌+◌, ◌<◌, ◌≤◌, ◌^◌, ℕ, List, [], ◌∷◌, length, slice_index}
use Rattle.std.specs.Int.{w64, to_le_bytes}
use Rattle.sqlite_disk.specs.Disk.{Holds}

-- an open gate, and behind it a length for which the file has room
pub record IsOpenAt (file : List ℕ) (at n : ℕ) : Type 0 where
  pub gate : slice_index file at ≡ 1
  pub size : Holds file (at + 1) (to_le_bytes w64 n)
  pub fits : n < 2 ^ 64
  pub within : at + 41 + n ≤ length file

-- open gates lead from one offset to another, by the lengths behind them
abbrev pub Leads : List ℕ → ℕ → List ℕ → ℕ → Type 0
Leads file at [] end = at ≡ end
Leads file at (n ∷ sizes) end = IsOpenAt file at n × Leads file (at + 41 + n) sizes end

-- they lead from the front to a gate that is not open
pub record EndsAt (file : List ℕ) (end : ℕ) : Type 0 where
  pub sizes : List ℕ
  pub leads : Leads file 0 sizes end
  pub within : end < length file
  pub shut : slice_index file end ≢ 1

-- neither a gate that is not open stands here, nor an open one with its group
pub record IsStuckAt (file : List ℕ) (at : ℕ) : Type 0 where
  pub no_gate : at < length file → slice_index file at ≡ 1
  pub no_group : (n : ℕ) → ¬ IsOpenAt file at n

-- they lead from the front to where neither stands
pub record IsCutAt (file : List ℕ) (at : ℕ) : Type 0 where
  pub sizes : List ℕ
  pub leads : Leads file 0 sizes at
  pub some : 1 < length file
  pub stuck : IsStuckAt file at
