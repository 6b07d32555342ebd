-- Tags: a group and an element, of 16 bits each (PS3.5, 7.1.1), as one number of 32 bits.
use Rattle.std.specs.Prelude.{ℕ, ◌+◌, ◌*◌, ◌/◌, ◌%◌, List, [], ◌∷◌, ◌++◌, Option, Some, None, Bool, true, nat_lt}
use Rattle.std.specs.Int.{w16, from_le_bytes, to_le_bytes}

-- the tag in four bytes: group and element, each with the low byte first
abbrev pub tag_from : ℕ → ℕ → ℕ → ℕ → ℕ
tag_from g0 g1 e0 e1 = from_le_bytes w16 (g0 ∷ g1 ∷ []) * 65536 + from_le_bytes w16 (e0 ∷ e1 ∷ [])

-- the four bytes of a tag
abbrev pub tag_text : ℕ → List ℕ
tag_text tag = to_le_bytes w16 (tag / 65536) ++ to_le_bytes w16 (tag % 65536)

-- tags ascend, so none stands twice: behind the one before
abbrev pub is_above : Option ℕ → ℕ → Bool
is_above None tag = true
is_above (Some previous) tag = nat_lt previous tag
