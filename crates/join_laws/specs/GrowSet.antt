-- Sets, as their keys, ascending.
use Rattle.std.specs.Prelude.{List, [], ◌∷◌, fold}
use Rattle.std.specs.declared.cmp.Ordering.{Ordering}
use Rattle.std.specs.BTreeSet.{insert_key}

-- the keys of both: those of the second, put into the first
abbrev pub union_of : {K : Type 0} → (K → K → Ordering) → List K → List K → List K
union_of cmp = fold (insert_key cmp)

-- one key
abbrev pub only : {K : Type 0} → K → List K
only key = key ∷ []
