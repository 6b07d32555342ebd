use Rattle.std.proofs.Common.{◌≡◌, ◌++◌, drop, map, length}
use Rattle.std.specs.Prelude.{◌==◌, not, List, ℕ}
use Rattle.std.specs.List.{filter}
use Rattle.archive_model.specs.Contents.{modality_of}
use Rattle.archive_query.proofs.groups.modalities_of.Given as goal

-- The modalities so far, with those of the contents left, are those of all, but for empty ones.
abbrev pub invariant-loop-content : goal.invariant-loop-content
invariant-loop-content l =
    map (λ u. u.now) l.found.items ++ filter (λ (m : List ℕ). not (length m == 0))
    (map modality_of (map (λ c. c.now) (drop l.content-index l.contents)))
    ≡ filter (λ (m : List ℕ). not (length m == 0)) (map modality_of (map (λ c. c.now) l.contents))
