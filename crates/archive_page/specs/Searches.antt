-- A search for studies, as the query of a request says it.
use Rattle.std.specs.Prelude.{ℕ, ◌+◌, ◌-◌, ◌*◌, List, [], ◌∷◌, Option, Some, None, Result, Ok, Err, Bool, true, false}
use Rattle.std.specs.Prelude.{◌||◌, not, ◌==◌, nat_lt, cond, length, codes}
use Rattle.std.specs.List.{find, list_all}
use Rattle.std.specs.Option.{option_and_then}
use Rattle.std.specs.Str.Lossy.{utf8_lossy}
use Rattle.form_urlencoded.specs.Form.{raw_pairs, decode}
use Rattle.octets.specs.Padding.{trimmed}
use Rattle.octets.specs.Texts.{same}
use Rattle.archive_page.specs.declared.search.Search.{Search}
use Rattle.archive_page.specs.declared.search.SearchFault.{SearchFault}
use Rattle.archive_page.specs.declared.search.SearchFault.TheVariants.{UnknownKey, NoPage, Memory}

abbrev pub is_memory : SearchFault → Bool
is_memory UnknownKey = false
is_memory NoPage = false
is_memory Memory = true

-- the reason, in words
abbrev pub words_of : SearchFault → List ℕ
words_of UnknownKey =
    codes "Studies are searched by PatientName, PatientID, StudyDate, AccessionNumber, Modality and page."
words_of NoPage = codes "A page is a number from 1 to 999999999."
words_of Memory = codes "There is no memory left."

-- whether the key of a pair, as it is written, has this name
abbrev pub is_named : List ℕ → List ℕ × List ℕ → Bool
is_named name pair = same pair.0 name

-- a value, decoded (URL Standard, 5.1) and trimmed
abbrev pub text_of : List ℕ → List ℕ
text_of value = trimmed (utf8_lossy (decode value))

abbrev pub value_or_none : Option (List ℕ × List ℕ) → List ℕ
value_or_none None = []
value_or_none (Some pair) = text_of pair.1

-- the value of the first key of a name, empty where there is none
abbrev pub value_under : List ℕ → List (List ℕ × List ℕ) → List ℕ
value_under name pairs = value_or_none (find (is_named name) pairs)

-- whether studies are searched by a key of this name
abbrev pub is_known : List ℕ → Bool
is_known name =
    same name (codes "PatientName") || (same name (codes "PatientID") || (same name (codes "StudyDate")
    || (same name (codes "AccessionNumber") || (same name (codes "Modality") || same name (codes "page")))))

-- a number with one digit more, below a thousand million
abbrev pub with_digit : ℕ → ℕ → Option ℕ
with_digit number byte =
    cond (nat_lt byte 48 || (nat_lt 57 byte || not (nat_lt number 100000000))) None
    (Some (number * 10 + (byte - 48)))

-- the number that digits behind a number write
abbrev pub number_in : ℕ → List ℕ → Option ℕ
number_in number [] = Some number
number_in number (byte ∷ bytes) = option_and_then (λ longer. number_in longer bytes) (with_digit number byte)

abbrev pub page_from : Option ℕ → Result ℕ SearchFault
page_from None = Err NoPage
page_from (Some number) = cond (number == 0) (Err NoPage) (Ok number)

-- the page that a text names, the first where it is empty
abbrev pub page_in : List ℕ → Result ℕ SearchFault
page_in text = cond (length text == 0) (Ok 1) (page_from (number_in 0 text))

abbrev pub search_at : List (List ℕ × List ℕ) → Result ℕ SearchFault → Result Search SearchFault
search_at pairs (Err fault) = Err fault
search_at pairs (Ok page) = Ok (record {
  name = value_under (codes "PatientName") pairs;
  patient = value_under (codes "PatientID") pairs;
  date = value_under (codes "StudyDate") pairs;
  accession = value_under (codes "AccessionNumber") pairs;
  modality = value_under (codes "Modality") pairs;
  page = page;
})

-- the search that some pairs say, or the first fault: a key of another name, then the page
abbrev pub search_of : List (List ℕ × List ℕ) → Result Search SearchFault
search_of pairs =
    cond (list_all (λ pair. is_known pair.0) pairs)
    (search_at pairs (page_in (value_under (codes "page") pairs)))
    (Err UnknownKey)

-- the search that a query says
abbrev pub search_in : List ℕ → Result Search SearchFault
search_in query = search_of (raw_pairs query)
