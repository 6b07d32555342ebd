-- Values without their padding (PS3.5, 6.2).
use Rattle.std.specs.Prelude.{ℕ, ◌-◌, List, length, take, drop, Bool, ◌==◌, ◌||◌}
use Rattle.std.specs.List.{prefix_len, suffix_len}

-- a space
abbrev pub is_space : ℕ → Bool
is_space byte = byte == 0x20

-- what pads a value to even length
abbrev pub is_padding : ℕ → Bool
is_padding byte = byte == 0x00 || byte == 0x20

abbrev pub without_padding : List ℕ → List ℕ
without_padding bytes = take (length bytes - suffix_len is_padding bytes) bytes

-- without the 00 and 20 bytes at its end, and then without the 20 bytes at its front
abbrev pub trimmed : List ℕ → List ℕ
trimmed bytes = drop (prefix_len is_space (without_padding bytes)) (without_padding bytes)
