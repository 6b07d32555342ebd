-- What the lines of a server show of the bytes of its peers.
use Rattle.std.specs.Prelude.{ℕ, ◌≤◌, ◌≢◌}

-- printable ASCII, and no quotation mark
abbrev pub IsPlain : ℕ → Type 0
IsPlain byte = (32 ≤ byte) × (byte ≤ 126) × (byte ≢ 34)
