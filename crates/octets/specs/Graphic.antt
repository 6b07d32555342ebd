-- Printable bytes (ISO 646; PS3.5, 6.1.1).
use Rattle.std.specs.Prelude.{ℕ, Bool, ◌&&◌, nat_le}

-- a byte of 20 to 7E
abbrev pub is_graphic : ℕ → Bool
is_graphic b = nat_le 32 b && nat_le b 126
