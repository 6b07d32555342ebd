-- The greatest of some values.
use Rattle.std.specs.Prelude.{Option}
use Rattle.std.specs.Ordering.{ord_max}
use Rattle.std.specs.declared.cmp.Ordering.{Ordering}
use Rattle.join_laws.specs.Laws.{joined_options}

-- the greater of two that may be absent
abbrev pub greatest_of : {T : Type 0} → (T → T → Ordering) → Option T → Option T → Option T
greatest_of cmp = joined_options (ord_max cmp)
