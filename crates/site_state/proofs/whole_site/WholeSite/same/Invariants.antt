use Rattle.std.proofs.Common.{◌≡◌}
use Rattle.std.specs.Prelude.{◌↔◌}
use Rattle.site_state.proofs.whole_site.WholeSite.same.Given as goal

-- What is left of both sites is the same exactly where all operations are.
abbrev pub invariant-loop-op : goal.invariant-loop-op
invariant-loop-op l = (l.op-iterator ≡ l.others) ↔ (l.initial.op-iterator ≡ l.initial.others)
