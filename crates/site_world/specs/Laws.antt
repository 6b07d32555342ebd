-- What the tests of equality decide.
use Rattle.std.specs.Prelude.{◌≡◌, ◌↔◌, IsTrue}
use Rattle.operation.specs.declared.op.Op.{Op}
use Rattle.site_state.specs.Site.{Map}
use Rattle.site_world.specs.Same.{same_op, same_site}

-- two operations are told to be one exactly where they are
abbrev pub SameOpIsEquality : Type 0
SameOpIsEquality = (o p : Op) → IsTrue (same_op o p) ↔ (o ≡ p)

-- two sites are told to hold the same exactly where they do
abbrev pub SameSiteIsEquality : Type 0
SameSiteIsEquality = (m n : Map) → IsTrue (same_site m n) ↔ (m ≡ n)
