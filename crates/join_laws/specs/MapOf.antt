-- Maps, as their entries, with the keys ascending.
use Rattle.std.specs.Prelude.{◌≡◌, List, [], ◌∷◌, fold, All, Option, None, Some}
use Rattle.std.specs.List.Sorted.{IsStrictlySortedBy}
use Rattle.std.specs.Map.{keys_of}
use Rattle.std.specs.Ordering.{match_ordering}
use Rattle.std.specs.declared.cmp.Ordering.{Ordering}

-- P holds of each value
abbrev pub AllHeld : {K J : Type 0} → (J → Type 0) → List (K × J) → Type 0
AllHeld {K} {J} P es = All (λ (e : K × J). P e.1) es

-- the keys ascend, and P holds of each value
abbrev pub IsMapOf : {K J : Type 0} → (K → K → Ordering) → (J → Type 0) → List (K × J) → Type 0
IsMapOf {K} {J} cmp P es = IsStrictlySortedBy cmp (keys_of es) × All (λ (e : K × J). P e.1) es

-- the entries es, with the value w at the key k, joined to what is there
abbrev pub put_joined : {K J : Type 0} → (K → K → Ordering) → (J → J → J) → List (K × J) → K → J → List (K × J)
put_joined cmp join [] k w = (k, w) ∷ []
put_joined cmp join (e ∷ es) k w = match_ordering (cmp k e.0) ((k, w) ∷ e ∷ es) ((e.0, join e.1 w) ∷ es)
    (e ∷ put_joined cmp join es k w)

-- key by key: the entries of the second, put into the first
abbrev pub map_joined : {K J : Type 0} → (K → K → Ordering) → (J → J → J) → List (K × J) → List (K × J) → List (K × J)
map_joined cmp join = fold (λ es e. put_joined cmp join es e.0 e.1)

-- one entry
abbrev pub entry : {K J : Type 0} → K → J → List (K × J)
entry key value = (key, value) ∷ []

-- one entry, whose value is that of one operation
abbrev pub entry_of : {K O J : Type 0} → (O → J) → K × O → List (K × J)
entry_of of_one op = entry op.0 (of_one op.1)

-- what takes an operation back at a key: nothing where the key was absent, and else what does so at the value
abbrev pub IsUndoAt : {O U J : Type 0} → (J → O → U → Type 0) → O → Option J → Option U → Type 0
IsUndoAt TakesBack op before None = before ≡ None
IsUndoAt {O} {U} {J} TakesBack op before (Some undo) = (value : J) × (before ≡ Some value) × TakesBack value op undo
