-- Lists of keys.
use Rattle.std.specs.Prelude.{◌≡◌, Bool, true, false, List}
use Rattle.std.specs.List.{list_any}
use Rattle.std.specs.BTreeMap.{is_at}
use Rattle.std.specs.declared.cmp.Ordering.{Ordering}

-- whether a key is among some
abbrev pub has : {K : Type 0} → (K → K → Ordering) → List K → K → Bool
has cmp keys key = list_any (is_at (cmp key)) keys

-- no key is in both
abbrev pub AreApart : {K : Type 0} → (K → K → Ordering) → List K → List K → Type 0
AreApart {K} cmp keys others = (key : K) → has cmp keys key ≡ true → has cmp others key ≡ false
