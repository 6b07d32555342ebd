-- The text of a value, in UTF-8.
use Rattle.std.specs.Prelude.{ℕ, List, cond}
use Rattle.std.specs.Char.{encode_utf8}
use Rattle.std.specs.List.{flat_map}
use Rattle.std.specs.Str.{is_utf8}

-- the bytes of a value where they are UTF-8, and else a character of Latin-1 for each (ISO 8859-1; its characters
-- are the first 256 of Unicode)
unfoldable pub text_of : List ℕ → List ℕ
text_of value = cond (is_utf8 value) value (flat_map encode_utf8 value)
