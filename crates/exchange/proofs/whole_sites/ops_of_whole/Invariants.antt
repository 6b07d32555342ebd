use Rattle.std.proofs.Common.{◌≡◌, ◌++◌, drop}
use Rattle.exchange.specs.Held.{given}
use Rattle.exchange.proofs.whole_sites.ops_of_whole.Given as goal

-- The operations that were found, with those that are still to be found, are those to be given.
abbrev pub invariant-loop-bytes : goal.invariant-loop-bytes
invariant-loop-bytes l = l.ops.items ++ given l.version (drop l.bytes-index l.arrays) l.site ≡ given l.version
    l.arrays l.site
