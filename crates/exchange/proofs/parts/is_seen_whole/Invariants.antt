use Rattle.std.proofs.Common.{◌≡◌, drop}
use Rattle.std.specs.List.{list_all}
use Rattle.exchange.specs.Parts.{tells_of}
use Rattle.exchange.proofs.parts.is_seen_whole.Given as goal

-- Some of each place are told exactly where some of each place that is left are.
abbrev pub invariant-loop-place : goal.invariant-loop-place
invariant-loop-place l =
    list_all (tells_of l.arrays) l.places ≡ list_all (tells_of l.arrays) (drop l.place-index l.places)
