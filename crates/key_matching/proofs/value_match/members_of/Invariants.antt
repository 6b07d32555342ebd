use Rattle.std.proofs.Common.{◌≡◌, ◌++◌, map, length}
use Rattle.octets.specs.Padding.{trimmed}
use Rattle.key_matching.specs.Matches.{parts}
use Rattle.key_matching.proofs.value_match.members_of.Given as goal

-- The members so far, with those of the rest, are the members of the key.
abbrev pub invariant-loop-members : goal.invariant-loop-members
invariant-loop-members l = l.members.items ++ map trimmed (parts l.rest) ≡ map trimmed (parts l.key)

-- Behind each backslash less of the key is left.
abbrev pub decreases-loop-members : goal.decreases-loop-members
decreases-loop-members l = length l.rest
