-- Value representations (PS3.5, 6.2 and 7.1.2).
use Rattle.std.specs.Prelude.{ℕ, List, [], ◌∷◌, Option, Some, None, Bool, false, not, nat_le, ◌==◌, ◌&&◌, ◌||◌}
use Rattle.std.specs.Prelude.{if◌then◌else◌}
use lib.Chars.{codes}
use Rattle.data_set.specs.declared.syntax.Syntax.{Syntax}
use Rattle.data_set.specs.declared.syntax.Syntax.TheVariants.{Implicit, Explicit}
use Rattle.data_set.specs.Tags.{is_listed, is_pixel_data}

-- the length that is no length: an end follows (PS3.5, 7.1.1)
abbrev pub undefined_length : ℕ
undefined_length = 0xffff_ffff

abbrev pub is_capital : ℕ → Bool
is_capital c = nat_le 65 c && nat_le c 90

-- the value representations whose length has two bytes (PS3.5, 7.1.2)
abbrev pub short_names : List (List ℕ)
short_names =
    codes "AE" ∷ codes "AS" ∷ codes "AT" ∷ codes "CS" ∷ codes "DA" ∷ codes "DS" ∷ codes "DT" ∷ codes "FL" ∷ codes "FD"
    ∷ codes "IS" ∷ codes "LO" ∷ codes "LT" ∷ codes "PN" ∷ codes "SH" ∷ codes "SL" ∷ codes "SS" ∷ codes "ST" ∷ codes
    "TM" ∷ codes "UI" ∷ codes "UL" ∷ codes "US" ∷ []

abbrev pub is_name : ℕ → ℕ → List ℕ → Bool
is_name a b (x ∷ y ∷ []) = a == x && b == y
is_name a b _ = false

abbrev pub is_among : ℕ → ℕ → List (List ℕ) → Bool
is_among a b [] = false
is_among a b (name ∷ names) = is_name a b name || is_among a b names

unfoldable pub is_short : ℕ → ℕ → Bool
is_short a b = is_among a b short_names

-- The pair is no two capital letters, or a listed tag has another value representation than SQ or UN.
abbrev pub has_bad_vr : ℕ → Option (List ℕ) → Bool
has_bad_vr tag (Some (a ∷ b ∷ [])) = not (is_capital a && is_capital b) ||
    (is_listed tag && not (is_name a b (codes "SQ")) && not (is_name a b (codes "UN")))
has_bad_vr tag _ = false

-- The syntax of the items of a sequence, or none for a value (PS3.5, 6.2.2 and 7.5). Where no SQ names a sequence, an
-- undefined length or a listed tag does, and its items are implicit.
abbrev pub inner_syntax : ℕ → Option (List ℕ) → ℕ → Option Syntax
inner_syntax tag (Some (a ∷ b ∷ [])) size =
    if is_name a b (codes "SQ") then Some Explicit
    else if is_name a b (codes "UN") && (size == undefined_length || is_listed tag) then Some Implicit
    else None
inner_syntax tag _ size = if size == undefined_length || is_listed tag then Some Implicit else None

-- pixel data that is a sequence, or a value without a length
abbrev pub is_undefined : ℕ → Option Syntax → ℕ → Bool
is_undefined tag None size = size == undefined_length
is_undefined tag (Some inner) size = is_pixel_data tag
