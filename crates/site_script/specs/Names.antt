-- The words that name something: sites, tags, views and targets.
use Rattle.std.specs.Prelude.{ℕ, ◌+◌, ◌-◌, ◌*◌, List, [], ◌∷◌, length, Option, Some, None, Bool, not, nat_le, nat_eq}
use Rattle.std.specs.Prelude.{◌==◌, ◌&&◌, ◌||◌, if◌then◌else◌, codes}
use Rattle.std.specs.List.{list_all}
use Rattle.std.specs.Int.{w32, from_be_bytes}
use Rattle.std.specs.Cmp.Lexicographic.{pointwise}
use Rattle.archive_model.specs.declared.view.View.{View}
use Rattle.archive_model.specs.declared.view.View.TheVariants.{Archive, Quality, Audit}

-- whether a word is this one
abbrev pub is : List ℕ → List ℕ → Bool
is = pointwise nat_eq

abbrev pub is_letter_or_digit : ℕ → Bool
is_letter_or_digit b = (nat_le 48 b && nat_le b 57) || (nat_le 65 b && nat_le b 90) || (nat_le 97 b && nat_le b 122)

-- 1 to 16 ASCII letters and digits
unfoldable pub is_site_name : List ℕ → Bool
is_site_name word = not (length word == 0) && nat_le (length word) 16 && list_all is_letter_or_digit word

-- the number of a hexadecimal digit in either letter case
unfoldable pub digit_of : ℕ → Option ℕ
digit_of b =
    if nat_le 48 b && nat_le b 57 then Some (b - 48)
    else if nat_le 65 b && nat_le b 70 then Some (b - 55)
    else if nat_le 97 b && nat_le b 102 then Some (b - 87)
    else None

-- the byte that two digits spell, high digit first
abbrev pub byte_from : Option ℕ → Option ℕ → Option ℕ
byte_from (Some high) (Some low) = Some (16 * high + low)
byte_from _ _ = None

abbrev pub tag_from : Option ℕ → Option ℕ → Option ℕ → Option ℕ → Option ℕ
tag_from (Some a) (Some b) (Some c) (Some d) = Some (from_be_bytes w32 (a ∷ b ∷ c ∷ d ∷ []))
tag_from _ _ _ _ = None

-- the tag that eight hexadecimal digits spell, group first
abbrev pub tag_in : List ℕ → Option ℕ
tag_in (a ∷ b ∷ c ∷ d ∷ e ∷ f ∷ g ∷ h ∷ []) =
    tag_from (byte_from (digit_of a) (digit_of b)) (byte_from (digit_of c) (digit_of d))
    (byte_from (digit_of e) (digit_of f)) (byte_from (digit_of g) (digit_of h))
tag_in _ = None

-- a view, by the called title that asks for it
unfoldable pub view_in : List ℕ → Option View
view_in word =
    if is word (codes "ARCHIVE") then Some Archive
    else if is word (codes "QUALITY") then Some Quality
    else if is word (codes "AUDIT") then Some Audit
    else None
