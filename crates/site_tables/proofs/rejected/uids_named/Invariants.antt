use Rattle.std.proofs.Common.{◌≡◌, ◌++◌, drop, map}
use Rattle.std.specs.List.{flat_map}
use Rattle.site_tables.specs.Rejected.{named_in}
use Rattle.site_tables.proofs.rejected.uids_named.Given as goal

-- The UIDs so far, with what the notes that are left name, are all.
abbrev pub invariant-loop-note : goal.invariant-loop-note
invariant-loop-note l =
    l.uids.items ++ flat_map named_in (map (λ c. c.now) (drop l.note-index l.notes))
    ≡ flat_map named_in (map (λ c. c.now) l.notes)
