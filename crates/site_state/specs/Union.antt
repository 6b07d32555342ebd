-- The union of two sites.
use Rattle.std.specs.Prelude.{◌≡◌, ◌≢◌, ℕ, List, ◌++◌, Option, Some, None}
use Rattle.std.specs.FinMap as finmap
use Rattle.operation.specs.declared.op.Op.{Op}
use Rattle.site_state.specs.Site.{Map, held_at}

-- the first of two that is there
abbrev pub either : Option Op → Option Op → Option Op
either None other = other
either (Some o) other = Some o

-- what two sites hold together; under a digest that both have, what the first has
abbrev pub union : Map → Map → Map
union m n = finmap.from_entries (finmap.entries m ++ finmap.entries n)

-- both sites hold a digest, with different operations
abbrev pub DoClash : Map → Map → Type 0
DoClash m n = (d : List ℕ) × (o : Op) × (p : Op) × (held_at m d ≡ Some o) × (held_at n d ≡ Some p) × (o ≢ p)

-- where two sites hold one digest they hold one operation
abbrev pub Agree : Map → Map → Type 0
Agree m n = (d : List ℕ) (o p : Op) → held_at m d ≡ Some o → held_at n d ≡ Some p → o ≡ p
