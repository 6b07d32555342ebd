-- Texts, such as UIDs, as lists of bytes, and their order.
use Rattle.std.specs.Prelude.{ℕ, List, [], ◌∷◌, Bool, nat_eq}
use Rattle.std.specs.Ordering.{nat_cmp, match_ordering}
use Rattle.std.specs.Cmp.Lexicographic.{slice_cmp, pointwise}
use Rattle.std.specs.declared.cmp.Ordering.{Ordering}

-- whether both have the same bytes
abbrev pub same : List ℕ → List ℕ → Bool
same = pointwise nat_eq

-- the order of their bytes
abbrev pub text_cmp : List ℕ → List ℕ → Ordering
text_cmp = slice_cmp nat_cmp

-- a text in its place among texts that ascend, unless it is there
abbrev pub put : List ℕ → List (List ℕ) → List (List ℕ)
put text [] = text ∷ []
put text (t ∷ texts) = match_ordering (text_cmp text t) (text ∷ t ∷ texts) (t ∷ texts) (t ∷ put text texts)

-- these texts ascending, each once
abbrev pub ascending : List (List ℕ) → List (List ℕ)
ascending [] = []
ascending (t ∷ texts) = put t (ascending texts)
