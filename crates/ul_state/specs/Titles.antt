-- Called titles, and what they stand for.
use Rattle.std.specs.Prelude.{ℕ, Bool, true, List, [], ◌∷◌, ◌==◌, ◌||◌, Option, Some, None, nat_eq, if◌then◌else◌}
use Rattle.std.specs.List.{list_any}
use Rattle.std.specs.Cmp.Lexicographic.{pointwise}
use Rattle.ul_state.specs.declared.titles.Title.{Title}

abbrev pub is_space : ℕ → Bool
is_space b = b == 32

-- without the spaces before it
abbrev pub without_front : List ℕ → List ℕ
without_front [] = []
without_front (b ∷ bs) = if is_space b then without_front bs else b ∷ bs

-- a byte before a text whose last spaces were dropped
abbrev pub before : ℕ → List ℕ → List ℕ
before b [] = if is_space b then [] else b ∷ []
before b (c ∷ cs) = b ∷ c ∷ cs

-- without the spaces behind it
unfoldable pub without_end : List ℕ → List ℕ
without_end [] = []
without_end (b ∷ bs) = before b (without_end bs)

abbrev pub without_spaces : List ℕ → List ℕ
without_spaces text = without_end (without_front text)

abbrev pub is_text : List ℕ → List ℕ → Bool
is_text text wanted = pointwise nat_eq text wanted

-- the first of the titles that are this one
abbrev pub title_of : {V : Type 0} → List (Title V) → List ℕ → Option (Title V)
title_of [] called = None
title_of (title ∷ titles) called = if is_text title.title called then Some title else title_of titles called

-- one of the calling titles that are named, or any where none is
unfoldable pub may_call : List (List ℕ) → List ℕ → Bool
may_call [] calling = true
may_call (caller ∷ callers) calling = is_text caller calling || list_any (λ named. is_text named calling) callers
