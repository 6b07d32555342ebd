-- A table in HTML.
use Rattle.std.specs.Prelude.{ℕ, List, [], ◌∷◌, ◌++◌, codes}
use Rattle.std.specs.List.{flat_map}
use Rattle.archive_page.specs.Escaping.{escaped}
use Rattle.archive_page.specs.Links.{study_path}
use Rattle.archive_page.specs.declared.subject.Form.TheVariants.{Html}

-- a cell of the heading (HTML, 4.9.10)
abbrev pub heading_cell : List ℕ → List ℕ
heading_cell cell = codes "<th>" ++ escaped cell ++ codes "</th>"

-- a cell (HTML, 4.9.9)
abbrev pub data_cell : List ℕ → List ℕ
data_cell cell = codes "<td>" ++ escaped cell ++ codes "</td>"

-- the row of the heading
abbrev pub heading_row : List (List ℕ) → List ℕ
heading_row cells = codes "<tr>" ++ flat_map heading_cell cells ++ codes "</tr>\n"

-- a row
abbrev pub data_row : List (List ℕ) → List ℕ
data_row cells = codes "<tr>" ++ flat_map data_cell cells ++ codes "</tr>\n"

-- the head of a table
abbrev pub table_head : List (List ℕ) → List ℕ
table_head heading = codes "<table>\n<thead>\n" ++ heading_row heading ++ codes "</thead>\n"

-- its body, and its end
abbrev pub table_body : List (List (List ℕ)) → List ℕ
table_body rows = codes "<tbody>\n" ++ flat_map data_row rows ++ codes "</tbody>\n</table>\n"

-- a heading and rows below it (HTML, 4.9.1)
unfoldable pub html_table : List (List ℕ) → List (List (List ℕ)) → List ℕ
html_table heading rows = table_head heading ++ table_body rows

-- the UID of a study, which leads to its page (HTML, 4.5.1)
unfoldable pub study_link : List ℕ → List ℕ
study_link uid =
    codes "<a href=\"" ++ escaped (study_path Html uid) ++ codes "\">" ++ escaped uid ++ codes "</a>"

-- the same as a cell
abbrev pub study_cell : List ℕ → List ℕ
study_cell uid = codes "<td>" ++ study_link uid ++ codes "</td>"

-- the cells of the row of a study, of which the first has its UID
abbrev pub linked_cells : List (List ℕ) → List ℕ
linked_cells [] = []
linked_cells (uid ∷ cells) = study_cell uid ++ flat_map data_cell cells

-- the row of a study
abbrev pub linked_row : List (List ℕ) → List ℕ
linked_row cells = codes "<tr>" ++ linked_cells cells ++ codes "</tr>\n"

-- the body of a table of studies, and its end
abbrev pub linked_body : List (List (List ℕ)) → List ℕ
linked_body rows = codes "<tbody>\n" ++ flat_map linked_row rows ++ codes "</tbody>\n</table>\n"

-- a table of studies, each of which leads to its page
unfoldable pub linked_table : List (List ℕ) → List (List (List ℕ)) → List ℕ
linked_table heading rows = table_head heading ++ linked_body rows
