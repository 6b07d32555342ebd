use Rattle.std.proofs.Common.{◌≡◌, ◌++◌}
use Rattle.site_state.proofs.site.octets_of.Given as goal

-- the texts so far, and the UIDs that are left, are all
abbrev pub invariant-loop-uid : goal.invariant-loop-uid
invariant-loop-uid l = l.texts.items ++ l.uid-iterator ≡ l.initial.uid-iterator
