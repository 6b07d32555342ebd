-- A table in JSON (RFC 8259), as its tokens.
use Rattle.std.specs.Prelude.{ℕ, List, [], ◌∷◌, ◌++◌, codes, map}
use Rattle.std.specs.List.{flat_map}
use Rattle.json.specs.Token.{Token, begin_object, end_object, begin_array, end_array, key, string}
use Rattle.archive_page.specs.Characters.{text_of}

-- the text of a value as a string
abbrev pub string_of : List ℕ → Token
string_of value = string (text_of value)

-- the texts of some values as an array of strings
abbrev pub array_of : List (List ℕ) → List Token
array_of values = begin_array ∷ (map string_of values ++ end_array ∷ [])

-- the names of the columns, as a member of an object
abbrev pub columns_member : List (List ℕ) → List Token
columns_member heading = key (codes "columns") ∷ array_of heading

-- the rows, each an array, as a member of an object
abbrev pub rows_member : List (List (List ℕ)) → List Token
rows_member rows = key (codes "rows") ∷ begin_array ∷ (flat_map array_of rows ++ end_array ∷ [])

-- a heading and rows below it, as an object
unfoldable pub json_table : List (List ℕ) → List (List (List ℕ)) → List Token
json_table heading rows = begin_object ∷ (columns_member heading ++ rows_member rows ++ end_object ∷ [])
