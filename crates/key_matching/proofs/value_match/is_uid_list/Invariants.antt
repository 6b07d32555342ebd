use Rattle.std.proofs.Common.{◌≡◌, length}
use Rattle.std.specs.List.{list_all}
use Rattle.key_matching.specs.Matches.{is_uid_part, parts}
use Rattle.key_matching.proofs.value_match.is_uid_list.Given as goal

-- Each part so far is a UID, so the key is a list of UIDs exactly where the rest is.
abbrev pub invariant-loop-at : goal.invariant-loop-at
invariant-loop-at l = list_all is_uid_part (parts l.rest) ≡ list_all is_uid_part (parts l.key)

-- Behind each backslash less of the key is left.
abbrev pub decreases-loop-at : goal.decreases-loop-at
decreases-loop-at l = length l.rest
