use Rattle.std.proofs.Common.{◌≡◌, ◌<◌, ◌≤◌, ◌+◌, ℕ, length}
use Rattle.sqlite_wal.specs.Recovery.{frame_at, sum_before}
use Rattle.wal_tail.specs.Tail.{IsValidAt, page_size}
use Rattle.wal_tail.proofs.tail.first_bad.Given as goal

-- the frames so far are valid, and here the next begins
abbrev pub invariant-loop-at : goal.invariant-loop-at
invariant-loop-at l =
    record {
      place : l.begin ≡ frame_at (page_size l.log) l.at;
      inside : l.begin ≤ length l.log;
      far : l.at + 32 ≤ l.begin;
      sum : l.sum ≡ sum_before (page_size l.log) l.log l.at;
      before : (i : ℕ) → i < l.at → IsValidAt l.log i;
    }
