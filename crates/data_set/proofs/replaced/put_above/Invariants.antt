use Rattle.std.proofs.Common.{◌≡◌, ◌++◌, drop}
use Rattle.data_set.specs.Converted.{converted, above}
use Rattle.data_set.proofs.replaced.put_above.Given as goal

-- What was put, with the elements left of greater tags, is all elements of greater tags.
abbrev pub invariant-loop-element : goal.invariant-loop-element
invariant-loop-element l = l.out.items ++ converted l.syntax (above l.tag (drop l.element-index l.elements))
    ≡ l.initial.out.items ++ converted l.syntax (above l.tag l.elements)
