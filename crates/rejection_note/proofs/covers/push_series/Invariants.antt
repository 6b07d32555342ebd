use Rattle.std.proofs.Common.{◌≡◌, ◌++◌, map, drop}
use Rattle.rejection_note.specs.Notes.{named_by_series}
use Rattle.rejection_note.proofs.covers.push_series.Given as goal

-- The UIDs so far, with those that the series left name, are those that all series name.
abbrev pub invariant-loop-item : goal.invariant-loop-item
invariant-loop-item l =
    l.found.items ++ named_by_series (map (λ item. item.items) (drop l.item-index l.items))
    ≡ l.initial.found.items ++ named_by_series (map (λ item. item.items) l.items)
