-- Wild card matching, on bytes (PS3.4, C.2.2.2.4).
use Rattle.std.specs.Prelude.{ℕ, ◌-◌, List, [], ◌∷◌, Bool, true, false, ◌&&◌, ◌||◌, ◌==◌, nat_le, if◌then◌else◌}

-- `*` stands for any bytes, `?` for one
abbrev pub star : ℕ
star = 0x2a

abbrev pub question_mark : ℕ
question_mark = 0x3f

-- a small ASCII letter as its capital
abbrev pub capital : ℕ → ℕ
capital byte = if nat_le 97 byte && nat_le byte 122 then byte - 32 else byte

abbrev pub folded : Bool → ℕ → ℕ
folded folds byte = if folds then capital byte else byte

-- whether a byte of a key, which is no `*`, matches a byte of a value
abbrev pub is_byte_match : Bool → ℕ → ℕ → Bool
is_byte_match folds k v = k == question_mark || folded folds k == folded folds v

-- whether a key matches a value: an empty key an empty value; `*` if the rest of the key does, or if
-- `*` does with one byte of the value left out; any other byte takes one byte of the value
abbrev pub is_wild_match : Bool → List ℕ → List ℕ → Bool
is_wild_match folds [] [] = true
is_wild_match folds [] (v ∷ value) = false
is_wild_match folds (k ∷ key) [] = k == star && is_wild_match folds key []
is_wild_match folds (k ∷ key) (v ∷ value) =
    if k == star then is_wild_match folds key (v ∷ value) || is_wild_match folds (k ∷ key) value
    else is_byte_match folds k v && is_wild_match folds key value
