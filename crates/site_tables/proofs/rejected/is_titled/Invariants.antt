use Rattle.std.proofs.Common.{◌≡◌, drop, map}
use Rattle.site_tables.specs.Rejected.{is_titled}
use Rattle.site_tables.proofs.rejected.is_titled.Given as goal

-- Whether one of all notes does is whether one of those that are left does.
abbrev pub invariant-loop-note : goal.invariant-loop-note
invariant-loop-note l =
    is_titled l.uid (map (λ c. c.now) (drop l.note-index l.notes)) l.title
    ≡ is_titled l.uid (map (λ c. c.now) l.notes) l.title
