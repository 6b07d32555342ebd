use Rattle.std.proofs.Common.{◌≡◌, ◌++◌, drop, map}
use Rattle.std.specs.List.{filter}
use Rattle.site_tables.specs.Rejected.{is_naming}
use Rattle.site_tables.proofs.rejected.naming.Given as goal

-- The UIDs so far, with those of the notes that are left, are all.
abbrev pub invariant-loop-note : goal.invariant-loop-note
invariant-loop-note l =
    l.found.items ++ map (λ c. c.instance) (filter (is_naming l.uid) (map (λ c. c.now) (drop l.note-index l.notes)))
    ≡ map (λ c. c.instance) (filter (is_naming l.uid) (map (λ c. c.now) l.notes))
