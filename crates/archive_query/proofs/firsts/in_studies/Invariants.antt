use Rattle.std.proofs.Common.{◌≡◌, ◌++◌, map}
use Rattle.std.specs.List.{flat_map}
use Rattle.archive_model.specs.Shown.{shown_at}
use Rattle.site_state.specs.Site.{ops_of}
use Rattle.archive_query.specs.Firsts.{firsts_in_study}
use Rattle.archive_query.proofs.firsts.in_studies.Given as goal

-- with what the studies that are left still bring, all is taken
abbrev pub invariant-loop-study : goal.invariant-loop-study
invariant-loop-study l =
    map (λ c. c.now) l.found.items ++ flat_map
    (firsts_in_study (shown_at l.view (ops_of l.site)) l.index.picks) l.study-iterator
    ≡ flat_map (firsts_in_study (shown_at l.view (ops_of l.site)) l.index.picks) l.initial.study-iterator
