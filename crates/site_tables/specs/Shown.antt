-- What a terminal shows as text: no control character, so no line feed within a line and no escape sequence.
use Rattle.std.specs.Prelude.{◌≡◌, ℕ, List, [], ◌∷◌, ◌++◌, length, true, not}
use Rattle.std.specs.Char.{is_control, encode_utf8}
use Rattle.std.specs.List.{flat_map, list_all, All}

-- a text in UTF-8, of characters none of which is a control character
pub record IsShown (text : List ℕ) : Type 0 where
  pub chars : List ℕ
  pub plain : list_all (λ c. not (is_control c)) chars ≡ true
  pub spelled : text ≡ flat_map encode_utf8 chars

-- so many lines
pub record AreLines (count : ℕ) (text : List ℕ) : Type 0 where
  pub lines : List (List ℕ)
  pub counted : length lines ≡ count
  pub shown : All IsShown lines
  pub joined : text ≡ flat_map (λ line. line ++ 10 ∷ []) lines
