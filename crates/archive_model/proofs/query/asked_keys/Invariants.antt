use Rattle.std.proofs.Common.{◌≡◌, ◌++◌, drop}
use Rattle.std.specs.List.{filter_map}
use Rattle.archive_model.specs.Query.{asked_of}
use Rattle.archive_model.proofs.query.asked_keys.Given as goal

-- The keys so far, with those of the elements left, are all keys that are asked.
abbrev pub invariant-loop-element : goal.invariant-loop-element
invariant-loop-element l = l.keys.items ++ filter_map (asked_of l.level) (drop l.element-index l.elements) ≡ filter_map
    (asked_of l.level) l.elements
