-- Tables as text for a terminal: columns as wide as their widest cells, and lines of cells that it shows.
use Rattle.std.specs.Prelude.{ℕ, zero, suc, ◌+◌, ◌-◌, max, List, [], ◌∷◌, ◌++◌, map, length, replicate}
use Rattle.std.specs.Prelude.{if◌then◌else◌, ◌||◌, ◌==◌, get_or, false}
use Rattle.std.specs.Char.{is_control, encode_utf8}
use Rattle.std.specs.List.{flat_map, fold}
use Rattle.std.specs.Str.{chars}
use Rattle.bstr.specs.Utf8.{lossy_chars}
use Rattle.unicode_width.specs.Width.{str_width}

-- a question mark for a control character, and for what is no character
abbrev pub shown_char : ℕ → ℕ
shown_char c = if is_control c || (c == 65533) then 63 else c

-- what a terminal shows of a text, in UTF-8
unfoldable pub shown_text : List ℕ → List ℕ
shown_text text = flat_map encode_utf8 (map shown_char (lossy_chars text))

-- how many columns of a terminal a text takes (Unicode Standard Annex 11)
unfoldable pub width : List ℕ → ℕ
width text = str_width false (chars text)

-- how wide a column is: as its widest cell
abbrev pub widest : ℕ → List (List (List ℕ)) → ℕ
widest column table = fold (λ most row. max most (width (get_or row column []))) 0 table

-- the widths of the first columns of a table
abbrev pub widths : ℕ → List (List (List ℕ)) → List ℕ
widths zero table = []
widths (suc count) table = widths count table ++ widest count table ∷ []

-- the spaces behind a cell that is not the last: up to the width of its column, and two more
abbrev pub gap : ℕ → List ℕ → List ℕ
gap wide cell = replicate (wide - width cell) 32 ++ 32 ∷ 32 ∷ []

-- the cells of a line from a column on; a column without a width has none
abbrev pub cells_from : List ℕ → ℕ → List (List ℕ) → List ℕ
cells_from sizes column [] = []
cells_from sizes column (cell ∷ []) = cell
cells_from sizes column (cell ∷ next ∷ cells) =
    cell ++ gap (get_or sizes column 0) cell ++ cells_from sizes (column + 1) (next ∷ cells)

-- the rows of a table, a line each, in so many columns that have a width
abbrev pub table_lines : ℕ → List (List (List ℕ)) → List ℕ
table_lines columns table = flat_map (λ row. cells_from (widths columns table) 0 row ++ 10 ∷ []) table

-- a heading and rows below it, as a terminal shows them: the columns of the heading have widths
abbrev pub aligned : List (List ℕ) → List (List (List ℕ)) → List ℕ
aligned heading rows = table_lines (length heading) (map (map shown_text) (heading ∷ rows))
