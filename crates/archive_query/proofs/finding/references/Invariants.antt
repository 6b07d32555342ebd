use Rattle.std.proofs.Common.{◌≡◌, ◌++◌, map, drop}
use Rattle.archive_query.proofs.finding.references.Given as goal

-- What was lent, with what is left, is all of it.
abbrev pub invariant-loop-content : goal.invariant-loop-content
invariant-loop-content l = map (λ c. c.now) l.found.items ++ drop l.content-index l.contents ≡ l.contents
