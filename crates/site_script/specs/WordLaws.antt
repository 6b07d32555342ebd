-- What the words of a line are.
use Rattle.std.specs.Prelude.{◌≡◌, ◌≢◌, ℕ, List, [], ◌∷◌, not, ◌==◌}
use Rattle.std.specs.List.{filter, flat_map, join_with_byte}
use Rattle.archive_model.specs.Members.{Has}
use Rattle.site_script.specs.Words.{words_of}

-- no byte of a text is a space
abbrev pub HasNoSpace : List ℕ → Type 0
HasNoSpace text = (b : ℕ) → Has text b → b ≢ 32

-- each is a word: it has a byte, and no space
abbrev pub AreWords : List (List ℕ) → Type 0
AreWords [] = Unit {0}
AreWords (word ∷ words) = (word ≢ []) × HasNoSpace word × AreWords words

-- words joined by spaces are read as these words
abbrev pub JoinedWordsAreRead : Type 0
JoinedWordsAreRead = (words : List (List ℕ)) → AreWords words → words_of (join_with_byte 32 words) ≡ words

-- what is read of a line are words
abbrev pub WordsAreRead : Type 0
WordsAreRead = (line : List ℕ) → AreWords (words_of line)

-- and, one behind the other, all bytes of the line but its spaces
abbrev pub WordsAreTheText : Type 0
WordsAreTheText = (line : List ℕ) → flat_map (λ word. word) (words_of line) ≡ filter (λ b. not (b == 32)) line
