use Rattle.std.proofs.Common.{◌≡◌, drop}
use Rattle.exchange.specs.Parts.{tells_of}
use Rattle.exchange.proofs.parts.tells_of.Given as goal

-- One of all has the place exactly where one of those that are left has.
abbrev pub invariant-loop-bytes : goal.invariant-loop-bytes
invariant-loop-bytes l = tells_of l.arrays l.place ≡ tells_of (drop l.bytes-index l.arrays) l.place
