-- Lists of bytes.
use Rattle.std.specs.Prelude.{ℕ, ◌<◌, List}
use Rattle.std.proofs.Common.{get_or}

-- each element is a byte
abbrev pub IsBytes : List ℕ → Type 0
IsBytes bytes = (i : ℕ) → get_or bytes i 0 < 256
