use Rattle.std.proofs.Common.{◌≡◌, length}
use Rattle.std.specs.List.{list_any}
use Rattle.key_matching.specs.Matches.{is_same_part, parts}
use Rattle.key_matching.proofs.value_match.is_listed.Given as goal

-- No part so far is the value, so it is listed exactly where the rest lists it.
abbrev pub invariant-loop-at : goal.invariant-loop-at
invariant-loop-at l = list_any (is_same_part l.value) (parts l.rest) ≡ list_any (is_same_part l.value) (parts l.key)

-- Behind each backslash less of the key is left.
abbrev pub decreases-loop-at : goal.decreases-loop-at
decreases-loop-at l = length l.rest
