use Rattle.std.proofs.Common.{◌≡◌, ◌++◌, drop, map}
use Rattle.archive_model.specs.Contents.{series_of}
use Rattle.archive_query.proofs.groups.count_series.Given as goal

-- The series so far, with those of the contents left, are the series of all contents.
abbrev pub invariant-loop-content : goal.invariant-loop-content
invariant-loop-content l = map (λ u. u.now) l.uids.items ++ map series_of
    (map (λ c. c.now) (drop l.content-index l.contents)) ≡ map series_of (map (λ c. c.now) l.contents)
