-- What an older file shows.
use Rattle.std.specs.Prelude.{◌≡◌, ℕ, Result, Ok, Err}
use Rattle.sqlite_disk.specs.declared.Disk.{Ghosts}
use Rattle.head_log.specs.Reads.{OnlyReads}
use Rattle.head_log.specs.declared.refused.Refused.{Refused}
use Rattle.older_heads.specs.declared.log.OlderHeads.{OlderHeads}

-- the file
abbrev pub disk_of : {D : Type 0} → OlderHeads D → D
disk_of log = log.disk

-- the file, whether it was opened or not
abbrev pub file_of : {D : Type 0} → Result (OlderHeads D) (Refused D) → D
file_of (Ok log) = log.disk
file_of (Err refused) = refused.disk

-- where its groups end
abbrev pub end_of : {D : Type 0} → OlderHeads D → ℕ
end_of log = log.end

-- a call only read
pub record Looks {D : Type 0} (g : Ghosts D) (old new : OlderHeads D) : Type 0 where
  pub disk : OnlyReads g old.disk new.disk
  pub same : new.end ≡ old.end
