use Rattle.std.proofs.Common.{◌≡◌, ◌++◌, drop}
use Rattle.exchange.specs.Held.{lacked}
use Rattle.exchange.proofs.sites.missing_of_site.Given as goal

-- The digests that were found, with those that are still to be found, are those that are lacked.
abbrev pub invariant-loop-bytes : goal.invariant-loop-bytes
invariant-loop-bytes l = l.missing ++ lacked l.site (drop l.bytes-index l.arrays) ≡ lacked l.site l.arrays
