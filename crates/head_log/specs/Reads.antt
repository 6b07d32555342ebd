-- What a call that only reads leaves of a disk.
use Rattle.std.specs.Prelude.{◌≡◌, List, ℕ, IsTrue}
use Rattle.sqlite_disk.specs.declared.Disk.{Ghosts}

pub record OnlyReads {D : Type 0} (g : Ghosts D) (old new : D) : Type 0 where
  pub seen : g.seen new ≡ g.seen old
  pub clean : IsTrue (g.is_clean new) → IsTrue (g.is_clean old)
  pub usable : g.is_usable new ≡ g.is_usable old
  pub crash : (c : List ℕ) → g.may_leave new c → g.may_leave old c
