-- The words of a line.
use Rattle.std.specs.Prelude.{ℕ, ◌-◌, List, [], ◌∷◌, ◌++◌, length, take, ◌==◌, if◌then◌else◌}
use Rattle.std.specs.List.{suffix_len}

-- a word, unless it is empty
abbrev pub a_word : List ℕ → List (List ℕ)
a_word [] = []
a_word (b ∷ word) = (b ∷ word) ∷ []

-- the words of a line, with the front of one in hand; runs of spaces count as one, and outer ones are ignored
abbrev pub words_from : List ℕ → List ℕ → List (List ℕ)
words_from front [] = a_word front
words_from front (b ∷ rest) = if b == 32 then a_word front ++ words_from [] rest else words_from (front ++ b ∷ []) rest

abbrev pub words_of : List ℕ → List (List ℕ)
words_of line = words_from [] line

-- a UID as a word gives it: without the 00 bytes at its end
abbrev pub uid_in : List ℕ → List ℕ
uid_in word = take (length word - suffix_len (λ b. b == 0) word) word
