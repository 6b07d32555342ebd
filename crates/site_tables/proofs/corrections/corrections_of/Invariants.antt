use Rattle.std.proofs.Common.{◌≡◌, ◌++◌, drop, map}
use Rattle.archive_model.specs.Attributes.{corrections}
use Rattle.site_tables.proofs.corrections.corrections_of.Given as goal

-- The corrections so far, with those among the operations that are left, are all.
abbrev pub invariant-loop-op : goal.invariant-loop-op
invariant-loop-op l =
    map (λ k. k.now) l.found.items ++ corrections (map (λ o. o.now) (drop l.op-index l.ops))
    ≡ corrections (map (λ o. o.now) l.ops)
