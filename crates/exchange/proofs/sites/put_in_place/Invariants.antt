use Rattle.std.proofs.Common.{◌≡◌, ◌++◌}
use Rattle.std.specs.Prelude.{filter, ◌==◌}
use Rattle.exchange.specs.Held.{spoken_of, place_of}
use Rattle.exchange.proofs.sites.put_in_place.Given as goal

-- The digests that were found, with those that are still to be found, are those of the place.
abbrev pub invariant-loop-digest : goal.invariant-loop-digest
invariant-loop-digest l =
    l.digests ++ filter (λ d. place_of d == l.place) (spoken_of l.version l.digest-iterator)
    ≡ l.initial.digests ++ filter (λ d. place_of d == l.place) (spoken_of l.version l.initial.digest-iterator)
