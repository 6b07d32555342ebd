-- How long is waited for who asks for a page, or comes to correct, and how long a page was made.
use Rattle.std.specs.Prelude.{◌-◌, ◌*◌, ◌/◌, ℕ, min, Option, Some, None}
use Rattle.core.specs.Duration.{as_nanos}
use Rattle.std.specs.declared.time.Duration.{Duration}
use Rattle.std.specs.Time.{instant_nanos}
use Rattle.std.specs.declared.time.Instant.{Instant}

-- The time from the one to the other, in nanoseconds; none where one of them is not known.
abbrev pub nanos_between : Option Instant → Option Instant → ℕ
nanos_between (Some asked) (Some told) = instant_nanos told - instant_nanos asked
nanos_between (Some asked) None = 0
nanos_between None told = 0

-- how many turns of a quarter of a second a wait of so many seconds has, or one without an end: 120 at most
abbrev pub turns_of : Option Duration → ℕ
turns_of None = 120
turns_of (Some idle) = min (as_nanos idle / 1_000_000_000 * 4) 120

-- how long who came may take to ask, in nanoseconds: as long as is waited for a peer, and 5 seconds at most
abbrev pub nanos_to_ask : Option Duration → ℕ
nanos_to_ask None = 5_000_000_000
nanos_to_ask (Some idle) = min 5_000_000_000 (as_nanos idle)
