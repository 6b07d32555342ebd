use Rattle.std.proofs.Common.{◌≡◌, ◌++◌, drop}
use Rattle.exchange.specs.Held.{held_of}
use Rattle.exchange.proofs.sites.held_of_site.Given as goal

-- The digests that were found, with those that are still to be found, are those that are held.
abbrev pub invariant-loop-bytes : goal.invariant-loop-bytes
invariant-loop-bytes l = l.held ++ held_of l.version (drop l.bytes-index l.arrays) l.site ≡ held_of l.version l.arrays
    l.site
