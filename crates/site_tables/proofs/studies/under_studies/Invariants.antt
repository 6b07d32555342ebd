use Rattle.std.proofs.Common.{◌≡◌, take, map}
use Rattle.site_tables.specs.Studies.{study_pair}
use Rattle.site_tables.specs.Under.{pairs}
use Rattle.site_tables.proofs.studies.under_studies.Given as goal

-- The entries are those of the contents so far.
abbrev pub invariant-loop-content : goal.invariant-loop-content
invariant-loop-content l =
    pairs l.found.items ≡ map study_pair (map (λ c. c.now) (take l.content-index l.contents))
