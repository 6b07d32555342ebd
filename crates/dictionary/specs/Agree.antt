-- Constants beside what the standard says.
use Rattle.std.specs.Prelude.{ℕ, List, Bool, ◌==◌, nat_eq}
use Rattle.std.specs.List.{list_all}
use Rattle.std.specs.Cmp.Lexicographic.{pointwise}

-- whether each constant is the number beside it
abbrev pub are_numbers : List (ℕ × ℕ) → Bool
are_numbers pairs = list_all (λ p. p.0 == p.1) pairs

-- whether each constant is the text beside it
abbrev pub are_texts : List (List ℕ × List ℕ) → Bool
are_texts pairs = list_all (λ p. pointwise nat_eq p.0 p.1) pairs
