use Rattle.std.proofs.Common.{◌≡◌, ◌++◌, drop, map}
use Rattle.site_pages.specs.SitePages.{fact_row}
use Rattle.site_pages.proofs.counts.put_facts.Given as goal

-- The rows so far, with those of the facts that are left, are all.
abbrev pub invariant-loop-fact : goal.invariant-loop-fact
invariant-loop-fact l =
    l.rows.items ++ map fact_row (drop l.fact-index l.facts) ≡ l.fn.rows.items ++ map fact_row l.facts
