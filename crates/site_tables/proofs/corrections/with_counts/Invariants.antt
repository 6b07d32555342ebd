use Rattle.std.proofs.Common.{◌≡◌, take, map}
use Rattle.site_state.specs.Site.{ops_of}
use Rattle.site_tables.specs.Corrections.{with_count}
use Rattle.site_tables.proofs.corrections.with_counts.Given as goal

-- What was found is the corrections so far.
abbrev pub invariant-loop-correction : goal.invariant-loop-correction
invariant-loop-correction l =
    l.found.items ≡ map (with_count (ops_of l.site)) (map (λ k. k.now) (take l.correction-index l.corrections))
