use Rattle.std.proofs.Common.{◌≡◌, ◌++◌}
use Rattle.exchange.specs.Held.{spoken_of}
use Rattle.exchange.proofs.sites.digests_of_tree.Given as goal

-- The digests that were found, with those that are still to be found, are those that the version speaks of.
abbrev pub invariant-loop-digest : goal.invariant-loop-digest
invariant-loop-digest l = l.digests ++ spoken_of l.version l.digest-iterator ≡ spoken_of l.version
    l.initial.digest-iterator
