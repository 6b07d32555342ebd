use Rattle.std.proofs.Common.{◌≤◌, ap, subst, arith, length, List}
use Rattle.std.proofs.lemmas.Bool.{leb-true}
use mathlib.Core.List.{IsPrefix}
use Rattle.site_hub.specs.declared.entry.Entry.{Entry}
use Rattle.site_hub.proofs.Fronts.{prefix_shorter}
use Rattle.site_hub.proofs.book.Front.begins.Goals as goal

-- Of two beginnings of one history the one that is no longer begins the other.
pub returns-clause-goes_on : goal.returns-clause-goes_on
returns-clause-goes_on g c is_le =
    let both = c.learn.new.self.log in
    let this : IsPrefix c.self.inside.seen.log both = subst (λ (l : List Entry). IsPrefix l both)
    (ap (λ s. s.log) c.again-both.ensures) c.learn.ensures.2 in
    let less : length c.self.inside.seen.log ≤ length c.other.inside.seen.log =
    omega (arith, c.self.invariant.0, c.other.invariant.0, leb-true _ _ is_le) in
    rw (← c.self.view_is, ← c.other.view_is) (prefix_shorter c.self.inside.seen.log c.other.inside.seen.log both this
    c.learn.ensures.3 less)
