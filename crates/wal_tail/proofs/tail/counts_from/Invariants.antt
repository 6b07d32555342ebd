use Rattle.std.proofs.Common.{◌≡◌, ◌≤◌, ◌+◌, length}
use Rattle.sqlite_wal.specs.Recovery.{frame_at, header}
use Rattle.wal_tail.specs.Tail.{count_from, is_own, is_own_commit, page_size}
use Rattle.wal_tail.proofs.tail.counts_from.Given as goal

-- so many frames were counted, and here the next begins
abbrev pub invariant-loop-at : goal.invariant-loop-at
invariant-loop-at l =
    record {
      place : l.begin ≡ frame_at (page_size l.log) (l.fn.place.frame + l._at);
      inside : l.begin ≤ length l.log;
      far : l._at + 32 ≤ l.begin;
      few : (l.frames ≤ l._at) × (l.commits ≤ l._at);
      frames : l.frames ≡ count_from (is_own (header l.log)) l.log l.fn.place.frame l._at;
      commits : l.commits ≡ count_from (is_own_commit (header l.log)) l.log l.fn.place.frame l._at;
    }
