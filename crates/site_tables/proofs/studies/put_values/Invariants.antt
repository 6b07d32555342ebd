use Rattle.std.proofs.Common.{◌≡◌, ◌++◌, drop, map}
use Rattle.site_tables.specs.Studies.{value_or_none}
use Rattle.site_tables.proofs.studies.put_values.Given as goal

-- The cells so far, with those of the tags that are left, are all.
abbrev pub invariant-loop-tag : goal.invariant-loop-tag
invariant-loop-tag l =
    l.cells ++ map (λ tag. value_or_none tag l.set) (drop l.tag-index l.tags)
    ≡ l.fn.cells ++ map (λ tag. value_or_none tag l.set) l.tags
