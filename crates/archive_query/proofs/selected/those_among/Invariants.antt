use Rattle.std.proofs.Common.{◌≡◌, ◌++◌, map, drop}
use Rattle.std.specs.List.{filter}
use Rattle.archive_model.specs.Selection.{is_among_these}
use Rattle.archive_query.proofs.selected.those_among.Given as goal

-- The contents that were found, with those that are still to be found, are the selected ones.
abbrev pub invariant-loop-content : goal.invariant-loop-content
invariant-loop-content l =
    map (λ c. c.now) l.found.items ++ filter (is_among_these (map (λ u. u.now) l.uids) l.selection)
    (map (λ c. c.now) (drop l.content-index l.contents))
    ≡ filter (is_among_these (map (λ u. u.now) l.uids) l.selection) (map (λ c. c.now) l.contents)
