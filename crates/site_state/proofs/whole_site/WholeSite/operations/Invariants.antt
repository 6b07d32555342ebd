use Rattle.std.proofs.Common.{◌≡◌, ◌++◌, map}
use Rattle.site_state.proofs.whole_site.WholeSite.operations.Given as goal

-- The operations so far, with those that are left, are all operations.
abbrev pub invariant-loop-op : goal.invariant-loop-op
invariant-loop-op l = map (λ o. o.now) l.ops.items ++ l.op-iterator ≡ l.initial.op-iterator
