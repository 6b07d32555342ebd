use Rattle.std.proofs.Common.{◌≡◌, ℕ, List, Some}
use Rattle.std.specs.Map.{keys_of}
use Rattle.std.specs.List.Sorted.{IsStrictlySortedBy}
use Rattle.operation.specs.declared.op.Op.{Op}
use Rattle.site_state.specs.Site.{digest_cmp}
use Rattle.site_state.proofs.Maps.{held}
use Rattle.site_state.proofs.Unions.{AgreeOver}
use Rattle.site_state.proofs.tree.do_clash.Given as goal

-- What is left ascends and is of the second tree; if it agrees with the first, all of the second does.
abbrev pub invariant-loop-digest : goal.invariant-loop-digest
invariant-loop-digest l = record {
  sorted : IsStrictlySortedBy digest_cmp (keys_of l.digest-iterator);
  of_all : (d : List ℕ) (o : Op) → held l.digest-iterator d ≡ Some o → held l.initial.digest-iterator d ≡ Some o;
  agree : AgreeOver l.these.entries l.digest-iterator → AgreeOver l.these.entries l.initial.digest-iterator;
}
