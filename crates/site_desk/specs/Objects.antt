-- The four words in an object of JSON (RFC 8259, 4).
use Rattle.std.specs.Prelude.{◌≡◌, ℕ, List, Option, Some, None, ⊤, codes}
use Rattle.std.specs.Option.{option_and_then}
use Rattle.std.specs.Str.{IsUtf8}
use Rattle.json.specs.Json.{Json, document}
use Rattle.json.specs.Find.{get, as_str}
use Rattle.site_desk.specs.declared.words.Words.{Words}

-- the text of the member of a name
abbrev pub text_in : List ℕ → Json → Option (List ℕ)
text_in name value = option_and_then as_str (get name value)

-- four texts, where each is there
abbrev pub words_by : Option (List ℕ) → Option (List ℕ) → Option (List ℕ) → Option (List ℕ) → Option Words
words_by (Some target) (Some key) (Some tag) (Some value) =
    Some (record { target = target; key = key; tag = tag; value = value })
words_by _ _ _ _ = None

-- The words of an object that has each: of two members of one name the last counts.
abbrev pub words_at : Json → Option Words
words_at value = words_by (text_in (codes "target") value) (text_in (codes "key") value) (text_in (codes "tag") value)
    (text_in (codes "value") value)

-- the words of a document
abbrev pub words_in : Option Json → Option Words
words_in None = None
words_in (Some value) = words_at value

-- it is UTF-8, if these are its words
abbrev pub IsTextOf : List ℕ → Option Words → Type 0
IsTextOf text None = ⊤
IsTextOf text (Some words) = IsUtf8 text

-- the words that a text of JSON says, if any
pub record Tells (text : List ℕ) (words : Option Words) : Type 0 where
  pub utf8 : IsTextOf text words
  pub said : IsUtf8 text → words ≡ words_in (document text)
