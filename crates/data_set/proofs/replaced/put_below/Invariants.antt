use Rattle.std.proofs.Common.{◌≡◌, ◌++◌, drop}
use Rattle.data_set.specs.Converted.{converted, below}
use Rattle.data_set.proofs.replaced.put_below.Given as goal

-- What was put, with the elements left of lesser tags, is all elements of lesser tags.
abbrev pub invariant-loop-element : goal.invariant-loop-element
invariant-loop-element l = l.out.items ++ converted l.syntax (below l.tag (drop l.element-index l.elements))
    ≡ l.initial.out.items ++ converted l.syntax (below l.tag l.elements)
