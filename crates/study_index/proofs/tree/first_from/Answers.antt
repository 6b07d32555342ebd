use Rattle.std.proofs.Common.{subst, IfSome, List}
use Rattle.std.specs.List.{slice_get}
use Rattle.std.specs.BTreeMap.Range.{IsLeBy}
use Rattle.study_index.specs.Live.{place_cmp, Place}
use Rattle.study_index.proofs.tree.first_from.Goals as goal

-- The first of the range is the least of it.
pub returns-in-Some-clause-least : goal.returns-in-Some-clause-least
returns-in-Some-clause-least c = λ q from there.
    subst (λ (r : List Place). IfSome (slice_get r 0) (λ k. IsLeBy place_cmp k q)) c.in-Some.ensures.steps
    ((c.range.ensures.in_range tt).2 q (from, tt) there)

-- Nothing lies in the range.
pub returns-in-None-clause-none : goal.returns-in-None-clause-none
returns-in-None-clause-none c = λ q from. (c.range.ensures.in_range tt).5 c.in-None.ensures.steps.0 q (from, tt)
