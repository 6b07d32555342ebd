use Rattle.std.proofs.Common.{◌≡◌, ◌++◌, None, drop, map}
use Rattle.std.specs.Option.{option_copied}
use Rattle.archive_model.specs.Shown.{shown_at}
use Rattle.site_state.specs.Site.{ops_of}
use Rattle.archive_query.specs.Firsts.{firsts}
use Rattle.archive_query.proofs.firsts.put_firsts.Given as goal

-- with what the places that are left still bring, all is taken
abbrev pub invariant-loop-place : goal.invariant-loop-place
invariant-loop-place l =
    map (λ c. c.now) l.found.items ++ firsts (shown_at l.view (ops_of l.site)) (option_copied l.last)
    (map (λ p. p.now) (drop l.place-index l.places))
    ≡ map (λ c. c.now) l.initial.found.items ++ firsts (shown_at l.view (ops_of l.site)) None
    (map (λ p. p.now) l.places)
