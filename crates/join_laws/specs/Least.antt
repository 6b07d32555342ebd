-- The least of some values.
use Rattle.std.specs.Prelude.{Option}
use Rattle.std.specs.Ordering.{ord_min}
use Rattle.std.specs.declared.cmp.Ordering.{Ordering}
use Rattle.join_laws.specs.Laws.{joined_options}

-- the lesser of two that may be absent
abbrev pub least_of : {T : Type 0} → (T → T → Ordering) → Option T → Option T → Option T
least_of cmp = joined_options (ord_min cmp)
