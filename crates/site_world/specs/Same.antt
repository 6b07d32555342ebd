-- Whether two operations, or two sites, are one. A code tells each value of its type from every other.
use Rattle.std.specs.Prelude.{Bool, true, false, ◌&&◌, ◌==◌}
use Rattle.std.specs.FinMap as finmap
use Rattle.std.specs.Coded.{Coded, coded_list, coded_ℕ}
use base.Stored.{Gv, gnil, gnum, gcons}
use Rattle.operation.specs.declared.op.Op.{Op}
use Rattle.operation.specs.OpCode.{op_code}
use Rattle.site_state.specs.Site.{Map}

abbrev pub same_code : Gv → Gv → Bool
same_code gnil gnil = true
same_code gnil (gnum n) = false
same_code gnil (gcons c d) = false
same_code (gnum m) gnil = false
same_code (gnum m) (gnum n) = m == n
same_code (gnum m) (gcons c d) = false
same_code (gcons a b) gnil = false
same_code (gcons a b) (gnum n) = false
same_code (gcons a b) (gcons c d) = same_code a c && same_code b d

-- whether both are one operation
unfoldable pub same_op : Op → Op → Bool
same_op o p = same_code (op_code.code o) (op_code.code p)

abbrev pub map_code : Coded Map
map_code = finmap.code (coded_list coded_ℕ) op_code

-- whether both sites hold the same
unfoldable pub same_site : Map → Map → Bool
same_site m n = same_code (map_code.code m) (map_code.code n)
