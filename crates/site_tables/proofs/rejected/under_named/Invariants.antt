use Rattle.std.proofs.Common.{◌≡◌, ◌++◌, drop, map}
use Rattle.std.specs.List.{flat_map}
use Rattle.site_tables.specs.Rejected.{named_pairs}
use Rattle.site_tables.specs.Under.{pairs}
use Rattle.site_tables.proofs.rejected.under_named.Given as goal

-- The entries so far, with those of the notes that are left, are all.
abbrev pub invariant-loop-note : goal.invariant-loop-note
invariant-loop-note l =
    pairs l.found.items ++ flat_map named_pairs (map (λ c. c.now) (drop l.note-index l.notes))
    ≡ flat_map named_pairs (map (λ c. c.now) l.notes)
