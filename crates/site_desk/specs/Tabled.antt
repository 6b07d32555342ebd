-- A table that a page tells in JSON.
use Rattle.std.specs.Prelude.{◌≡◌, ℕ, ◌+◌, List, [], ◌∷◌, ◌++◌, Bool, false, cond, Option, Some, None, MatchOption}
use Rattle.std.specs.Prelude.{map, codes, ⊤, IsUtf8, ok_or}
use Rattle.std.specs.Option.{option_and_then}
use Rattle.std.specs.Str.Parse.{ParsesUnsigned}
use Rattle.json.specs.Json.{Json, Items, no_items, item, document}
use Rattle.json.specs.Find.{get, at, as_str, as_number, as_array}
use Rattle.octets.specs.Texts.{same}
use Rattle.site_desk.specs.declared.ask_fault.AskFault.{AskFault}
use Rattle.site_desk.specs.declared.ask_fault.AskFault.TheVariants.{Broken, TooLong, NoAnswer, Memory, Refused}
use Rattle.site_desk.specs.declared.ask_fault.AskFault.TheVariants.{Unready, Unsaid}
use Rattle.site_desk.specs.Heard.{HasBody, HasStatus}

-- items as a list
abbrev pub listed : Items → List Json
listed no_items = []
listed (item value values) = value ∷ listed values

-- the values of both, if each of the others is there
abbrev pub gathered : {A : Type 0} → List A → List (Option A) → Option (List A)
gathered values [] = Some values
gathered values (None ∷ others) = None
gathered values (Some value ∷ others) = gathered (values ++ value ∷ []) others

-- the member of a name, if it is a list
abbrev pub list_in : List ℕ → Json → Option Items
list_in name value = option_and_then as_array (get name value)

-- whether a value is this text
abbrev pub is_text : List ℕ → Option (List ℕ) → Bool
is_text name None = false
is_text name (Some text) = same text name

-- where the first column of a name stands, of columns that stand from a place on
abbrev pub place_from : List ℕ → ℕ → List Json → Option ℕ
place_from name place [] = None
place_from name place (column ∷ columns) =
    cond (is_text name (as_str column)) (Some place) (place_from name (place + 1) columns)

-- where the columns of a heading stand, each the first of its name
abbrev pub places_in : List (List ℕ) → List Json → Option (List ℕ)
places_in heading columns = gathered [] (map (λ name. place_from name 0 columns) heading)

-- the text at a place of a row, where one stands there
abbrev pub cell_at : Json → ℕ → Option (List ℕ)
cell_at row place = option_and_then as_str (at place row)

-- the texts at these places, if one stands at each
abbrev pub cells_at : List ℕ → Json → Option (List (List ℕ))
cells_at places row = gathered [] (map (cell_at row) places)

-- where the columns of a heading stand in a table
abbrev pub places_below : List (List ℕ) → Json → Option (List ℕ)
places_below heading value =
    option_and_then (λ columns. places_in heading (listed columns)) (list_in (codes "columns") value)

-- the rows of a table, in order, each with the texts at these places
abbrev pub rows_at : List ℕ → Json → Option (List (List (List ℕ)))
rows_at places value =
    option_and_then (λ rows. gathered [] (map (cells_at places) (listed rows))) (list_in (codes "rows") value)

-- the rows of a table, in order, each with the cells below the names of a heading
abbrev pub rows_below : List (List ℕ) → Json → Option (List (List (List ℕ)))
rows_below heading value = option_and_then (λ places. rows_at places value) (places_below heading value)

-- the number that a text writes in decimal digits, below 2 to the power of 64, if it writes one
abbrev pub IsNumberOf : List ℕ → Option ℕ → Type 0
IsNumberOf text number = ParsesUnsigned 64 10 text (ok_or number text)

-- how many pages there are of a table: one where none is said, and none where what is said is no number
abbrev pub CountsPages : Json → Option ℕ → Type 0
CountsPages value pages =
    MatchOption (get (codes "pages") value) (pages ≡ Some 1)
    (λ told. MatchOption (as_number told) (pages ≡ None) (λ text. IsNumberOf text pages))

-- a value tells these rows below a heading, and so many pages
pub record Tells (heading : List (List ℕ)) (value : Json) (rows : List (List (List ℕ))) (pages : ℕ) : Type 0 where
  pub has_rows : rows_below heading value ≡ Some rows
  pub has_pages : CountsPages value (Some pages)

-- they are those of the table that an answer has as its body
pub record IsToldBy (heading : List (List ℕ)) (text : List ℕ) (rows : List (List (List ℕ))) (pages : ℕ) : Type 0 where
  pub body : List ℕ
  pub has_body : HasBody text body
  pub utf8 : IsUtf8 body
  pub value : Json
  pub is_document : document body ≡ Some value
  pub tells : Tells heading value rows pages

-- what is told as no answer of a site tells no such rows, or no number of pages
abbrev pub TellsNoRows : List (List ℕ) → List ℕ → AskFault → Type 0
TellsNoRows heading text NoAnswer = (rows : List (List (List ℕ))) (pages : ℕ) → ¬ (IsToldBy heading text rows pages)
TellsNoRows heading text Unready = ⊥
TellsNoRows heading text Memory = ⊤
TellsNoRows heading text Broken = ⊥
TellsNoRows heading text TooLong = ⊥
TellsNoRows heading text (Refused fault) = ⊥
TellsNoRows heading text Unsaid = ⊥

-- the same, and what the site cannot tell now, and nothing else, has the status of that
abbrev pub TellsNone : List (List ℕ) → List ℕ → AskFault → Type 0
TellsNone heading text Unready = HasStatus text 503
TellsNone heading text NoAnswer = ¬ (HasStatus text 503) × TellsNoRows heading text NoAnswer
TellsNone heading text Memory = ⊤
TellsNone heading text Broken = ⊥
TellsNone heading text TooLong = ⊥
TellsNone heading text (Refused fault) = ⊥
TellsNone heading text Unsaid = ⊥

-- the second of two cells, where the first is a word
abbrev pub cell_behind : List ℕ → List (List ℕ) → Option (List ℕ)
cell_behind word [] = None
cell_behind word (first ∷ []) = None
cell_behind word (first ∷ second ∷ []) = cond (same first word) (Some second) None
cell_behind word (first ∷ second ∷ third ∷ cells) = None

-- the first of some cells, or what stands behind them
abbrev pub first_or : Option (List ℕ) → Option (List ℕ) → Option (List ℕ)
first_or None others = others
first_or (Some cell) others = Some cell

-- the second cell of the first row of two whose first cell is a word
abbrev pub told_of : List ℕ → List (List (List ℕ)) → Option (List ℕ)
told_of word [] = None
told_of word (row ∷ rows) = first_or (cell_behind word row) (told_of word rows)
