-- What the devices in memory are.
use Rattle.std.specs.Prelude.{ℕ, ◌-◌, List, Option, Some, None, Bool, false, ◌==◌, if◌then◌else◌}

-- the bytes that a source has left, how many it gives at most at once, the reads that are left up to the one that
-- fails, and how often it has failed
pub record Supplied : Type 0 where
  pub bytes : List ℕ
  pub piece : ℕ
  pub reads_to_failure : Option ℕ
  pub failures : ℕ

-- the bytes that a sink holds, its room for more, and how often it has failed
pub record Stored : Type 0 where
  pub bytes : List ℕ
  pub room : ℕ
  pub failures : ℕ

-- the reads that are left up to the one that fails, after one more
abbrev pub after_a_read : Option ℕ → Option ℕ
after_a_read None = None
after_a_read (Some reads) = if reads == 0 then None else Some (reads - 1)

-- whether the next read is the one that fails
abbrev pub fails_next : Option ℕ → Bool
fails_next None = false
fails_next (Some reads) = reads == 1
