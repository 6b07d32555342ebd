-- Marks of a text: which bytes stand side by side in it.
use Rattle.std.specs.Prelude.{ℕ, nat_le, List, [], ◌∷◌, length, ◌+◌, ◌*◌, ◌%◌, ◌^◌, if◌then◌else◌}
use Rattle.std.specs.Int.Bits.{bit_or}

-- two bytes side by side have one of 32 marks, each a bit
abbrev pub mark_of : ℕ → ℕ → ℕ
mark_of first second = 1 * 2 ^ ((first * 11 + second) % 32) % 2 ^ 32

-- the marks of a text with a byte before it
abbrev pub marks_behind : ℕ → List ℕ → ℕ
marks_behind first [] = 0
marks_behind first (second ∷ text) = bit_or (mark_of first second) (marks_behind second text)

-- those of each two bytes that stand side by side in a text
abbrev pub marks_of : List ℕ → ℕ
marks_of [] = 0
marks_of (first ∷ text) = marks_behind first text

-- a value of which 64 bytes are known may have any two behind them, so it has all marks
abbrev pub value_marks : List ℕ → ℕ
value_marks value = if nat_le 64 (length value) then 4294967295 else marks_of value
