-- What a log has from its first frame on that is not valid.
use Rattle.std.specs.Prelude.{◌≡◌, ◌<◌, ◌≤◌, ◌+◌, ◌==◌, ◌&&◌, not, ℕ, zero, suc, Bool, if◌then◌else◌, List, length}
use Rattle.std.specs.Prelude.{bytes_eq}
use Rattle.sqlite_wal.specs.Format.{IsFrame, IsSigned, be32, commit_size, part}
use Rattle.sqlite_wal.specs.Recovery.{frame, frame_at, header, sum_before}
use Rattle.wal_tail.specs.declared.tail.Lost.{Lost}

-- how large a page is, as the header has it
abbrev pub page_size : List ℕ → ℕ
page_size log = be32 log 8

-- a frame has the salts of a header
abbrev pub is_own : List ℕ → List ℕ → Bool
is_own head frame = bytes_eq (part frame 8 8) (part head 16 8)

-- and commits
abbrev pub is_own_commit : List ℕ → List ℕ → Bool
is_own_commit head frame = is_own head frame && not (commit_size frame == 0)

-- frame i is valid behind those before it
abbrev pub IsValidAt : List ℕ → ℕ → Type 0
IsValidAt log i = IsFrame (header log) (sum_before (page_size log) log i) (frame (page_size log) log i)

-- frame k is whole in the log, and the first that is not valid
pub record IsFirstBad (log : List ℕ) (k : ℕ) : Type 0 where
  pub whole : frame_at (page_size log) (suc k) ≤ length log
  pub before : (i : ℕ) → i < k → IsValidAt log i
  pub bad : ¬ IsValidAt log k

-- a frame that begins at a place is whole in the log
pub record IsFrameFrom (log : List ℕ) (begin : ℕ) (it : List ℕ) : Type 0 where
  pub within : begin + (24 + page_size log) ≤ length log
  pub is : it ≡ part log begin (24 + page_size log)
  pub long : length it ≡ 24 + page_size log

-- the same of frame k, with the place where it begins, and whether it has the log's salts itself
pub record IsBadAt (log : List ℕ) (k byte : ℕ) (own : Bool) : Type 0 where
  pub first : IsFirstBad log k
  pub place : byte ≡ frame_at (page_size log) k
  pub salts : own ≡ is_own (header log) (frame (page_size log) log k)

-- n frames are whole in the log, and no more
pub record HasFrames (log : List ℕ) (n : ℕ) : Type 0 where
  pub whole : frame_at (page_size log) n ≤ length log
  pub last : length log < frame_at (page_size log) (suc n)

-- of n frames from frame k on, how many pass a test
unfoldable pub count_from : (List ℕ → Bool) → List ℕ → ℕ → ℕ → ℕ
count_from test log k zero = 0
count_from test log k (suc n) =
    count_from test log k n + (if test (frame (page_size log) log (k + n)) then 1 else 0)

-- of all frames that are whole, from frame k on, how many have the log's salts, and how many of these commit
pub record AreCounted (log : List ℕ) (k frames commits : ℕ) : Type 0 where
  pub behind : ℕ
  pub all : HasFrames log (k + behind)
  pub owned : frames ≡ count_from (is_own (header log)) log k behind
  pub committed : commits ≡ count_from (is_own_commit (header log)) log k behind

-- The header is signed, a frame is the first that is not valid, and from it on stand some with the log's salts.
pub record IsLost (log : List ℕ) (lost : Lost) : Type 0 where
  pub signed : IsSigned (header log)
  pub bad : IsBadAt log lost.frame lost.byte lost.is_own
  pub counted : AreCounted log lost.frame lost.frames lost.commits
  pub some : 0 < lost.frames
