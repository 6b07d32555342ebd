use Rattle.std.proofs.Common.{◌≡◌, ◌++◌, map, drop}
use Rattle.site_tables.proofs.copies.references.Given as goal

-- Those that were lent, with those that are left, are all of them.
abbrev pub invariant-loop-content : goal.invariant-loop-content
invariant-loop-content l = map (λ c. c.now) l.found.items ++ drop l.content-index l.contents ≡ l.contents
