use Rattle.std.proofs.Common.{◌≡◌, ◌++◌, drop}
use Rattle.std.specs.Prelude.{◌==◌, filter, not}
use Rattle.exchange.specs.Held.{place_of}
use Rattle.exchange.proofs.parts.without_place.Given as goal

-- The digests that were found, with those that are still to be found, are those of other places.
abbrev pub invariant-loop-bytes : goal.invariant-loop-bytes
invariant-loop-bytes l = l.digests ++ filter (λ d. not (place_of d == l.place)) (drop l.bytes-index l.arrays)
    ≡ filter (λ d. not (place_of d == l.place)) l.arrays
