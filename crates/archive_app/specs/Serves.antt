-- What the words of `archive serve` come to.
use Rattle.std.specs.Prelude.{◌≡◌, ℕ, zero, suc, ◌*◌, Option, Some, None}
use Rattle.core.specs.Duration.{as_nanos}
use Rattle.std.specs.declared.time.Duration.{Duration}

-- a time of so many seconds
abbrev pub IsSeconds : ℕ → Duration → Type 0
IsSeconds seconds time = as_nanos time ≡ seconds * 1_000_000_000

-- a wait of so many seconds, or with 0 one without an end
abbrev pub IsWait : ℕ → Option Duration → Type 0
IsWait zero wait = wait ≡ None
IsWait (suc seconds) None = ⊥
IsWait (suc seconds) (Some time) = IsSeconds (suc seconds) time
