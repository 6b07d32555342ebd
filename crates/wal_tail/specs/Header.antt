-- What a header of a log may be.
use Rattle.std.specs.Prelude.{◌≡◌, ◌≤◌, ◌&&◌, ◌==◌, ℕ, Bool, false, List, length, slice_index}
use Rattle.sqlite_wal.specs.Format.{IsSigned, be32}
use Rattle.sqlite_wal.specs.Recovery.{header}

-- what a crash leaves where a log is emptied: its first byte is 0, and the version stands
abbrev pub is_reset : List ℕ → Bool
is_reset head = (slice_index head 0 == 0) && (be32 head 4 == 3007000)

-- the log is long enough for a frame, and has a header that is not signed, and not being emptied
pub record IsHeaderLost (log : List ℕ) : Type 0 where
  pub long : 56 ≤ length log
  pub unsigned : ¬ IsSigned (header log)
  pub settled : is_reset (header log) ≡ false
