use Rattle.std.proofs.Common.{◌≡◌, ◌++◌}
use Rattle.std.specs.Prelude.{filter}
use Rattle.exchange.specs.Held.{is_in, offered}
use Rattle.exchange.proofs.Places.{from_place}
use Rattle.exchange.proofs.sites.digests_of_site_in.Given as goal

-- The digests that were found, with those of the places from this one on, are those in the places.
abbrev pub invariant-loop-place : goal.invariant-loop-place
invariant-loop-place l =
    l.digests ++ filter (is_in l.places) (filter (from_place l.place) (offered l.version l.site))
    ≡ filter (is_in l.places) (offered l.version l.site)
