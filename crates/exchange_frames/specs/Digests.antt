-- Digests that stand in one text.
use Rattle.std.specs.Prelude.{◌≡◌, ℕ, ◌*◌, ◌/◌, List, length}
use Rattle.std.specs.Simd.{first_chunks}

-- a text of whole digests, of 32 bytes each
abbrev pub IsWhole : List ℕ → Type 0
IsWhole text = length text ≡ 32 * (length text / 32)

-- the digests that stand in a text, one behind the other
abbrev pub digests_in : List ℕ → List (List ℕ)
digests_in text = first_chunks 32 (length text / 32) text
