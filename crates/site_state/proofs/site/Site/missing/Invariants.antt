use Rattle.std.proofs.Common.{◌≡◌, ◌++◌, drop}
use Rattle.std.specs.Prelude.{filter}
use Rattle.site_state.specs.Site.{is_missing}
use Rattle.site_state.proofs.site.Site.missing.Given as goal

-- The missing ones so far, with those of the digests that are left, are all that are missing.
abbrev pub invariant-loop-digest : goal.invariant-loop-digest
invariant-loop-digest l = l.missing.items ++ filter (is_missing l.fn.self) (drop l.digest-index l.digests) ≡ filter
    (is_missing l.fn.self) l.digests
