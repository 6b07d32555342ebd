-- UIDs as they stand in command sets (PS3.5, 9.1).
use Rattle.std.specs.Prelude.{◌≡◌, ℕ, ◌%◌, true, List, [], ◌∷◌, ◌++◌, ◌==◌, length, if◌then◌else◌}
use Rattle.std.specs.List.{list_all, suffix_len}
use Rattle.octets.specs.Graphic.{is_graphic}
use Rattle.octets.specs.Padding.{is_padding}

-- bytes of 20 to 7E, the last of which pads nothing
pub record IsUid (uid : List ℕ) : Type 0 where
  pub graphic : list_all is_graphic uid ≡ true
  pub bare : suffix_len is_padding uid ≡ 0

-- with a 00 at its end where its length is odd
abbrev pub padded : List ℕ → List ℕ
padded uid = if length uid % 2 == 0 then uid else uid ++ 0 ∷ []
