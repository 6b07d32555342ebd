use Rattle.std.proofs.Common.{◌≡◌, ◌++◌}
use Rattle.site_state.proofs.site.Site.digests.Given as goal

-- The digests so far, with those that are left, are all digests.
abbrev pub invariant-loop-digest : goal.invariant-loop-digest
invariant-loop-digest l = l.digests.items ++ l.digest-iterator ≡ l.initial.digest-iterator
