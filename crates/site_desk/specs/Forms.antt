-- The four words in a form (URL Standard, 5.1).
use Rattle.std.specs.Prelude.{ℕ, List, Option, Some, None, Bool, ◌==◌, cond, length, codes}
use Rattle.std.specs.List.{find}
use Rattle.std.specs.Option.{option_map}
use Rattle.std.specs.Str.Lossy.{utf8_lossy}
use Rattle.form_urlencoded.specs.Form.{decode}
use Rattle.octets.specs.Texts.{same}
use Rattle.site_desk.specs.declared.words.Words.{Words}

-- whether the key of a pair, as it is written, has this name
abbrev pub is_named : List ℕ → List ℕ × List ℕ → Bool
is_named name pair = same pair.0 name

-- a value, decoded
abbrev pub text_of : List ℕ → List ℕ
text_of value = utf8_lossy (decode value)

-- the value of the first key of a name, still encoded
abbrev pub first_in : List ℕ → List (List ℕ × List ℕ) → Option (List ℕ)
first_in name pairs = option_map (λ pair. pair.1) (find (is_named name) pairs)

-- four values, decoded, where each is there
abbrev pub words_by : Option (List ℕ) → Option (List ℕ) → Option (List ℕ) → Option (List ℕ) → Option Words
words_by (Some target) (Some key) (Some tag) (Some value) = Some (record {
  target = text_of target;
  key = text_of key;
  tag = text_of tag;
  value = text_of value;
})
words_by _ _ _ _ = None

-- The words of a form that has four pairs, one of each name.
abbrev pub words_in : List (List ℕ × List ℕ) → Option Words
words_in pairs = cond (length pairs == 4)
    (words_by (first_in (codes "target") pairs) (first_in (codes "key") pairs) (first_in (codes "tag") pairs)
    (first_in (codes "value") pairs)) None
