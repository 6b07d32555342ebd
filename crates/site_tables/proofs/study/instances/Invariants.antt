use Rattle.std.proofs.Common.{◌≡◌, take, map}
use Rattle.site_state.specs.Site.{ops_of}
use Rattle.site_tables.specs.Study.{with_shown}
use Rattle.site_tables.proofs.study.instances.Given as goal

-- What was found is the instances so far.
abbrev pub invariant-loop-content : goal.invariant-loop-content
invariant-loop-content l =
    l.found.items ≡ map (with_shown (ops_of l.site)) (map (λ c. c.now) (take l.content-index l.contents))
