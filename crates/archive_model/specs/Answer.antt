-- What the texts of rows say (PS3.5, 7.1 and annex A).
use Rattle.std.specs.Prelude.{◌≡◌, ◌≤◌, ℕ, List, [], ◌∷◌, ◌++◌, length, take, drop}
use Rattle.std.specs.List.{flat_map}
use Rattle.data_set.specs.declared.syntax.Syntax.TheVariants.{Explicit}
use Rattle.data_set.specs.Set.{Set}
use Rattle.data_set.specs.Reading.{elements_in}
use Rattle.data_set.specs.Texts.{Spells}
use Rattle.data_set.specs.Written.{text_of}

-- the data set that a text spells in Explicit VR Little Endian
abbrev pub set_in : List ℕ → Set
set_in text = record { syntax = Explicit; elements = elements_in Explicit text }

-- A text spells elements, and is what is written of them.
pub record IsWritten (text : List ℕ) : Type 0 where
  pub spelled : Spells Explicit text (elements_in Explicit text)
  pub written : text ≡ text_of (elements_in Explicit text)

-- the data sets of texts of these lengths, one behind the other
abbrev pub sets_in : List ℕ → List ℕ → List Set
sets_in [] text = []
sets_in (n ∷ ns) text = set_in (take n text) ∷ sets_in ns (drop n text)

-- A text is texts of these lengths, each of which was written.
abbrev pub IsCut : List ℕ → List ℕ → Type 0
IsCut [] text = text ≡ []
IsCut (n ∷ ns) text = (n ≤ length text) × (IsWritten (take n text) × IsCut ns (drop n text))

-- the rows of several buffers, one behind the other
abbrev pub sets_among : List (List Set) → List Set
sets_among blocks = flat_map (λ block. block) blocks

abbrev pub sets_of_full : List (List Set) → List Set → List Set
sets_of_full full last = sets_among full ++ last

abbrev pub sets_of_rest : List Set → List (List Set) → List Set
sets_of_rest first rest = first ++ sets_among rest
