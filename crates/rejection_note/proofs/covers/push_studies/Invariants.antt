use Rattle.std.proofs.Common.{◌≡◌, ◌++◌, map, drop}
use Rattle.rejection_note.specs.Notes.{named_by_studies}
use Rattle.rejection_note.proofs.covers.push_studies.Given as goal

-- The UIDs so far, with those that the studies left name, are those that all studies name.
abbrev pub invariant-loop-item : goal.invariant-loop-item
invariant-loop-item l =
    l.found.items ++ named_by_studies (map (λ item. item.items) (drop l.item-index l.items))
    ≡ l.initial.found.items ++ named_by_studies (map (λ item. item.items) l.items)
