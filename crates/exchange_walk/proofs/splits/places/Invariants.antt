use Rattle.std.proofs.Common.{◌≡◌, take}
use Rattle.std.specs.Prelude.{map}
use Rattle.exchange_walk.specs.Splits.{places_of}
use Rattle.exchange_walk.proofs.splits.places.Given as goal

-- the nodes of the places so far
abbrev pub invariant-loop-entry : goal.invariant-loop-entry
invariant-loop-entry l = map (λ node. node.now) l.places.items ≡ places_of (take l.entry-index l.entry-items)
