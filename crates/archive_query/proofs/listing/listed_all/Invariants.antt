use Rattle.std.proofs.Common.{◌≡◌, ◌++◌, map, drop}
use Rattle.site_state.specs.Site.{ops_of}
use Rattle.archive_model.specs.Listed.{listed}
use Rattle.archive_model.specs.Preparing.{prepared_for}
use Rattle.archive_query.proofs.listing.listed_all.Given as goal

-- with the contents that are left, all are listed
abbrev pub invariant-loop-content : goal.invariant-loop-content
invariant-loop-content l =
    l.found.items ++ map listed (map (prepared_for (ops_of l.site)) (map (λ c. c.now) (drop l.content-index l.contents)))
    ≡ map listed (map (prepared_for (ops_of l.site)) (map (λ c. c.now) l.contents))
