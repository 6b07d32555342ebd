use Rattle.std.proofs.Common.{◌≡◌, ◌++◌, drop}
use Rattle.site_state.specs.Site.{ops_of}
use Rattle.archive_query.specs.Found.{fixes_of}
use Rattle.archive_query.proofs.fixes.fixes_of.Given as goal

-- The values so far, with those of the keys that are left, are the values of all keys.
abbrev pub invariant-loop-asked : goal.invariant-loop-asked
invariant-loop-asked l =
    l.fixes.items ++ fixes_of (ops_of l.site) (drop l.asked-index l.asked-items) l.content
    ≡ fixes_of (ops_of l.site) l.asked-items l.content
