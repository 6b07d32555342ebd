use Rattle.std.proofs.Common.{◌≡◌, drop}
use Rattle.std.specs.Prelude.{◌==◌}
use Rattle.std.specs.List.{list_any}
use Rattle.exchange.proofs.buckets.has_place.Given as goal

-- A byte is one of the places exactly where it is one of those that are left.
abbrev pub invariant-loop-other : goal.invariant-loop-other
invariant-loop-other l = list_any (λ p. p == l.place) l.places ≡ list_any (λ p. p == l.place)
    (drop l.other-index l.places)
