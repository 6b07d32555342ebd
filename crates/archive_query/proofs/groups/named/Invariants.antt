use Rattle.std.proofs.Common.{◌≡◌, ◌++◌, drop, map}
use Rattle.archive_model.specs.Rows.{named}
use Rattle.archive_query.proofs.groups.named.Given as goal

-- What was found, with what the query names among the contents left, is all that it names.
abbrev pub invariant-loop-content : goal.invariant-loop-content
invariant-loop-content l = map (λ c. c.now) l.found.items ++ named
    l.query (map (λ c. c.now) (drop l.content-index l.shown)) ≡ named l.query (map (λ c. c.now) l.shown)
