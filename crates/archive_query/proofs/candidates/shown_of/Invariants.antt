use Rattle.std.proofs.Common.{◌≡◌, ◌++◌, map}
use Rattle.std.specs.List.{filter_map}
use Rattle.archive_model.specs.Shown.{shown_at}
use Rattle.site_state.specs.Site.{ops_of}
use Rattle.archive_query.proofs.candidates.shown_of.Given as goal

-- with what is left to be looked up, all is shown
abbrev pub invariant-loop-uid : goal.invariant-loop-uid
invariant-loop-uid l =
    map (λ c. c.now) l.found.items ++ filter_map (shown_at l.view (ops_of l.site)) l.uid-iterator
    ≡ filter_map (shown_at l.view (ops_of l.site)) l.initial.uid-iterator
