use Rattle.std.proofs.Common.{◌≡◌, ◌++◌, map, drop}
use Rattle.site_tables.proofs.copies.copies_of.Given as goal

-- The contents that were copied, with those that are left, are all of them.
abbrev pub invariant-loop-content : goal.invariant-loop-content
invariant-loop-content l = l.copies.items ++ map (λ c. c.now) (drop l.content-index l.contents)
    ≡ map (λ c. c.now) l.contents
