-- What a crash leaves of bytes that lie in a file.
use Rattle.std.specs.Prelude.{◌≡◌, ◌+◌, ◌≤◌, ℕ, List, length, IsTrue}
use Rattle.sqlite_disk.specs.Disk.{Holds}
use Rattle.sqlite_disk.specs.declared.Disk.{Ghosts}

-- the file has these bytes at this offset, and so has what any crash leaves of it
pub record Lasts {D : Type 0} (g : Ghosts D) (file : D) (at : ℕ) (bytes : List ℕ) : Type 0 where
  pub held : Holds (g.seen file) at bytes
  pub left : (c : List ℕ) → g.may_leave file c → Holds c at bytes

-- what bytes have below an offset, others have too
abbrev pub KeepsBelow : ℕ → List ℕ → List ℕ → Type 0
KeepsBelow end old new = (at : ℕ) (bytes : List ℕ) → at + length bytes ≤ end → Holds old at bytes → Holds new at bytes

-- Below an offset a file still has what it had, and whatever a crash leaves now has what some crash could leave before.
pub record Spares {D : Type 0} (g : Ghosts D) (end : ℕ) (old new : D) : Type 0 where
  pub kept : KeepsBelow end (g.seen old) (g.seen new)
  pub left : (c : List ℕ) → g.may_leave new c → (d : List ℕ) × g.may_leave old d × KeepsBelow end d c
  pub clean : IsTrue (g.is_clean new) → IsTrue (g.is_clean old)
  pub longer : length (g.seen old) ≤ length (g.seen new)

-- a file has what it had, and a crash leaves of it what some crash could leave before
pub record Stays {D : Type 0} (g : Ghosts D) (old new : D) : Type 0 where
  pub seen : g.seen new ≡ g.seen old
  pub left : (c : List ℕ) → g.may_leave new c → g.may_leave old c
  pub clean : IsTrue (g.is_clean new) → IsTrue (g.is_clean old)

-- what a file has lasts
abbrev pub Settles : {D : Type 0} → Ghosts D → D → D → Type 0
Settles g old new = (at : ℕ) (bytes : List ℕ) → Holds (g.seen old) at bytes → Lasts g new at bytes

-- Bytes that were read at an offset are those that the file has there, for as many as were asked for.
abbrev pub IsExact : List ℕ → ℕ → List ℕ → Type 0
IsExact file at read = (bytes : List ℕ) → length bytes ≡ length read → Holds file at bytes → read ≡ bytes
